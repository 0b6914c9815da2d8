-- What contracts see of a matrix of rectangles.
use Rattle.std.specs.Prelude.{ℕ, zero, suc, ◌-◌, pos, List, [], ◌∷◌, Option, None, slice_get, slice_set}
use Rattle.std.specs.List.{AllZip}
use Rattle.exact_algebra.specs.Complex.{Complex, complex_numbers}
use Rattle.linear_systems.specs.Linear.{IsSquare}
use Rattle.complex_interval.specs.Rectangles.{Rectangle, EnclosesComplex}
use Rattle.plain_elimination.specs.Elimination.{HoldsRows, IsReduced, IsSolved}

-- zero alone
abbrev pub nought_rectangle : Rectangle
nought_rectangle = record { re = record { low = pos 0; high = pos 0 }; im = record { low = pos 0; high = pos 0 } }

-- a square matrix: its size and its rows
pub record Square : Type 0 where
  pub size : ℕ
  pub rows : List (List Rectangle)

-- the entry in this row and this column, if there is one
abbrev pub entry : {X : Type 0} → List (List X) → ℕ → ℕ → Option X
entry [] row column = None
entry (r ∷ rows) zero column = slice_get r column
entry (r ∷ rows) (suc row) column = entry rows row column

-- the rows with x in this row and this column
abbrev pub set_entry : {X : Type 0} → List (List X) → ℕ → ℕ → X → List (List X)
set_entry [] row column x = []
set_entry (r ∷ rows) zero column x = slice_set r column x ∷ rows
set_entry (r ∷ rows) (suc row) column x = r ∷ set_entry rows row column x

-- what a value of the matrix's reduction says of each exact matrix that its entries hold
abbrev pub HoldsComplements : ℕ → Square → Rectangle → Type 0
HoldsComplements scale matrix value =
    (exact : List (List Complex)) → IsSquare complex_numbers matrix.size exact → HoldsRows (EnclosesComplex scale) matrix.rows exact
    → IsReduced complex_numbers (EnclosesComplex scale) (matrix.size - 1) value exact

-- what the values of its solution say of each exact system that its entries and the right side hold
abbrev pub HoldsSolutions : ℕ → Square → List Rectangle → List Rectangle → Type 0
HoldsSolutions scale matrix right values =
    (exact : List (List Complex)) (exact_right : List Complex) → IsSquare complex_numbers matrix.size exact → HoldsRows (EnclosesComplex scale) matrix.rows exact
    → AllZip (EnclosesComplex scale) right exact_right → IsSolved complex_numbers (EnclosesComplex scale) matrix.size values exact exact_right
