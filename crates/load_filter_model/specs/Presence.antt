-- Where loads, banks and filters count.
use Rattle.std.specs.Prelude.{Bool, true, ◌||◌, Option, is_some}
use Rattle.study_model.specs.declared.words.Sequence.{Sequence}
use Rattle.study_model.specs.declared.words.Sequence.TheVariants.{Positive, Zero}
use Rattle.study_model.specs.declared.words.Phase.{Phase}

-- Loads, banks and filters are in the positive network, and where they are grounded or have a phase in the zero network too.
abbrev pub is_present : Sequence → Bool → Option Phase → Bool
is_present Positive grounded phase = true
is_present Zero grounded phase = grounded || is_some phase
