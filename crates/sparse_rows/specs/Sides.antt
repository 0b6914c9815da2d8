-- The right sides of a system in one step of the elimination, apart from the rows.
use Rattle.std.specs.Prelude.{ℕ, zero, suc, ◌+◌, ◌-◌, ◌*◌, List, [], ◌∷◌, Option, Some, None, get_or, drop, if◌then◌else◌}
use Rattle.complex_interval.specs.Rectangles.{Rectangle}
use Rattle.plain_elimination.specs.Matrix.{nought_rectangle}
use Rattle.plain_elimination.specs.Elimination.{Enclosures, and_then}

-- the entries of n rows of this width in column c, and z where a row has none
abbrev pub column_of : {X : Type 0} → X → ℕ → ℕ → ℕ → List X → List X
column_of z zero width c cells = []
column_of z (suc n) width c cells = get_or cells c z ∷ column_of z n width c (drop width cells)

-- of a square of this size, the entries of column k in the rows behind row k
abbrev pub later_entries : ℕ → ℕ → List Rectangle → List Rectangle
later_entries size k cells = column_of nought_rectangle (size - 1 - k) size k (drop ((k + 1) * size) cells)

module _ (B : Enclosures) where
  open B use {is_zero, sub, mul, div}

  -- a right side after the step of a pivot, whose row has the right side b0: a is the entry of its own row in the pivot's column
  abbrev pub later_side : B.Enclosure → B.Enclosure → B.Enclosure → B.Enclosure → Option B.Enclosure
  later_side pivot b0 a b = if is_zero a then Some b else and_then (div a pivot) (λ f. and_then (mul f b0) (λ t. sub b t))

  -- each later right side in turn
  abbrev pub later_sides : B.Enclosure → B.Enclosure → List B.Enclosure → List B.Enclosure → Option (List B.Enclosure)
  later_sides pivot b0 [] right = Some []
  later_sides pivot b0 (a ∷ entries) [] = None
  later_sides pivot b0 (a ∷ entries) (b ∷ right) = and_then (later_side pivot b0 a b) (λ d. and_then (later_sides pivot b0 entries right) (λ ds. Some (d ∷ ds)))
