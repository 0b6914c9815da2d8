-- A complex system of n rows, read as a real one of 2n.
use Rattle.std.specs.Prelude.{◌≡◌, ℕ, ◌+◌, ◌↔◌, List, [], ◌∷◌, length}
use Rattle.std.specs.List.{AllZip}
use Rattle.exact_algebra.specs.Ratio.{Ratio, ◌≈◌, ratio_numbers, opposite}
use Rattle.exact_algebra.specs.Complex.{Complex, real_part, imaginary_part, complex_numbers}
use Rattle.linear_systems.specs.Linear.{IsSquare, IsInjective, Solves}

-- the real and the imaginary part of each number in turn
abbrev pub parts_of : List Complex → List Ratio
parts_of [] = []
parts_of (z ∷ zs) = real_part z ∷ imaginary_part z ∷ parts_of zs

-- the row that gives the real part: a and -b for each a + jb
abbrev pub real_row : List Complex → List Ratio
real_row [] = []
real_row (z ∷ r) = real_part z ∷ opposite (imaginary_part z) ∷ real_row r

-- the row that gives the imaginary part: b and a for each a + jb
abbrev pub imaginary_row : List Complex → List Ratio
imaginary_row [] = []
imaginary_row (z ∷ r) = imaginary_part z ∷ real_part z ∷ imaginary_row r

-- both rows of each row in turn
abbrev pub real_rows : List (List Complex) → List (List Ratio)
real_rows [] = []
real_rows (r ∷ rows) = real_row r ∷ imaginary_row r ∷ real_rows rows

-- y has the parts of n complex numbers
pub record HasParts (n : ℕ) (y : List Ratio) : Type 0 where
  pub list : List Complex
  pub count : length list ≡ n
  pub parts : AllZip ◌≈◌ y (parts_of list)

-- the real system of n complex rows says the same
pub record ReadsAsReal (n : ℕ) (rows : List (List Complex)) : Type 0 where
  pub square : IsSquare complex_numbers n rows → IsSquare ratio_numbers (n + n) (real_rows rows)
  pub solves : (x right : List Complex) → Solves complex_numbers rows x right ↔ Solves ratio_numbers (real_rows rows) (parts_of x) (parts_of right)
  pub every : (y : List Ratio) → length y ≡ n + n → HasParts n y
  pub injective : IsInjective complex_numbers n rows ↔ IsInjective ratio_numbers (n + n) (real_rows rows)

-- so it is for every complex system
abbrev pub ComplexAsReal : Type 0
ComplexAsReal = (n : ℕ) (rows : List (List Complex)) → ReadsAsReal n rows
