-- Which entries of a matrix may be other than zero.
use Rattle.std.specs.Prelude.{◌≡◌, ℕ, ◌<◌, List, Some}
use Rattle.std.specs.List.{All}
use Rattle.plain_elimination.specs.Matrix.{Square, entry, nought_rectangle}
use Rattle.plain_elimination.specs.declared.pattern.Spot.{Spot}

-- each of the places is in the square
abbrev pub AreInside : ℕ → List Spot → Type 0
AreInside size places = All (λ s. (s.row < size) × (s.column < size)) places

-- none of the places is in this row and this column
abbrev pub IsNoPlace : List Spot → ℕ → ℕ → Type 0
IsNoPlace places row column = All (λ s. s.row ≡ row → s.column ≡ column → ⊥) places

-- each entry of the matrix at none of these places is exact zero
abbrev pub IsZeroOutside : List Spot → Square → Type 0
IsZeroOutside places matrix = (row column : ℕ) → row < matrix.size → column < matrix.size → IsNoPlace places row column → entry matrix.rows row column ≡ Some nought_rectangle
