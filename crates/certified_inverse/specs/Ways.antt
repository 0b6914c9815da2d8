-- Ways over the zeros of rows.
use Rattle.std.specs.Prelude.{ℕ, ◌<◌, List, [], get_or, length}
use Rattle.complex_interval.specs.Rectangles.{Rectangle}
use Rattle.middle_inverse.specs.Leads.{LeadsOver}

-- of each row the list of the same number leads over its zeros
abbrev pub AreWays : List (List Rectangle) → List (List ℕ) → Type 0
AreWays rows ways = (i : ℕ) → i < length rows → LeadsOver (get_or rows i []) (get_or ways i [])
