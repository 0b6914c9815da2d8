-- Counts of entries.
use Rattle.std.proofs.Common.{◌≡◌, List, [], ◌∷◌, refl, length, arith}
use Rattle.toml.specs.Data.{Data}
use Rattle.toml.specs.View.{items_view}
use Rattle.toml.specs.declared.value.Value.{Value}
use Rattle.study_reader.specs.Sections.{count_items, entries_of}

-- there are as many items as values
pub count_of_items : (vs : List Value) → count_items (items_view vs) ≡ length vs
count_of_items [] = refl
count_of_items (v ∷ vs) = rw (count_of_items vs) (omega arith)

-- and as many records
pub entries_counted : {A : Type 0} (value : Data → A) (vs : List Value) → length (entries_of value (items_view vs)) ≡ length vs
entries_counted value [] = refl
entries_counted value (v ∷ vs) = rw (entries_counted value vs) (omega arith)
