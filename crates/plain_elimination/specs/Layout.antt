-- Square lists of rows in one list of cells, row after row.
use Rattle.std.specs.Prelude.{ℕ, zero, suc, ◌+◌, ◌-◌, ◌*◌, List, [], ◌∷◌, length, take, drop, map, Result, Ok, Err}
use Rattle.plain_elimination.specs.Elimination.{Enclosures, Line, and_then, bind, or_fail, take_away, lines_of}
use Rattle.plain_elimination.specs.declared.failure.Failure.{Failure}
use Rattle.plain_elimination.specs.declared.failure.Failure.TheVariants.{OutOfRange}

-- n rows of this width
abbrev pub rows_of : {X : Type 0} → ℕ → ℕ → List X → List (List X)
rows_of zero width cells = []
rows_of (suc n) width cells = take width cells ∷ rows_of n width (drop width cells)

-- the rows without their first k entries
abbrev pub from_column : {X : Type 0} → ℕ → List (List X) → List (List X)
from_column k rows = map (λ row. drop k row) rows

-- of a square list of this size, the rows from number k on, from column k on
abbrev pub rows_left : {X : Type 0} → ℕ → ℕ → List X → List (List X)
rows_left size k cells = from_column k (rows_of (size - k) size (drop (k * size) cells))

-- as many rows of this width as there are right sides, from a column on, each with its right side
abbrev pub lines_from : (B : Enclosures) → ℕ → ℕ → List B.Enclosure → List B.Enclosure → List (Line B)
lines_from B k width cells right = lines_of B (from_column k (rows_of (length right) width cells)) right

-- of a square system of this size, the lines from number k on, from column k on
abbrev pub lines_left : (B : Enclosures) → ℕ → ℕ → List B.Enclosure → List B.Enclosure → List (Line B)
lines_left B size k cells right = lines_of B (rows_left size k cells) (drop k right)

-- the row of pivot k, from the pivot on
abbrev pub pivot_row : {X : Type 0} → ℕ → ℕ → List X → List X
pivot_row size k cells = drop (k * size + k) (take ((k + 1) * size) cells)

module _ (B : Enclosures) where
  open B use {Enclosure, div}

  -- the unknown of a row, of the row from its pivot on, its right side and the unknowns behind it, with these
  abbrev pub with_unknown : ℕ → List Enclosure → List Enclosure → List Enclosure → Result (List Enclosure) Failure
  with_unknown step (pivot ∷ first) (b ∷ right) xs = bind (or_fail (OutOfRange step) (and_then (take_away B b first xs) (λ d. div d pivot))) (λ x. Ok (x ∷ xs))
  with_unknown step [] right xs = Err (OutOfRange step)
  with_unknown step (pivot ∷ first) [] xs = Err (OutOfRange step)

  -- the way back over the first n rows, from the unknowns behind them
  abbrev pub way_back : ℕ → ℕ → List Enclosure → List Enclosure → Result (List Enclosure) Failure → Result (List Enclosure) Failure
  way_back zero size cells right xs = xs
  way_back (suc n) size cells right xs = way_back n size cells right (bind xs (λ unknowns. with_unknown (suc n) (pivot_row size n cells) (drop n (take (suc n) right)) unknowns))
