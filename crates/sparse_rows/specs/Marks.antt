-- Marks of the places of a square, row after row: the places of a pattern, and the symbolic fill of the elimination in the order of the rows.
use Rattle.std.specs.Prelude.{◌≡◌, ℕ, ◌+◌, ◌*◌, ◌<◌, List, Bool, true, false, length, get_or, take, drop}
use Rattle.std.specs.List.{All}
use Rattle.plain_elimination.specs.declared.pattern.Spot.{Spot}
use Rattle.sparse_rows.specs.Gaps.{gaps_of}

-- this place is marked
abbrev pub IsMarked : List Bool → ℕ → Type 0
IsMarked marks q = get_or marks q false ≡ true

-- a place is marked with the one across the diagonal
abbrev pub IsSymmetric : ℕ → List Bool → Type 0
IsSymmetric size marks = (i j : ℕ) → i < size → j < size → IsMarked marks (i * size + j) → IsMarked marks (j * size + i)

-- marks were added, none before this place, and each with the one across the diagonal
pub record Grown (size from : ℕ) (old new : List Bool) : Type 0 where
  pub grows : (q : ℕ) → IsMarked old q → IsMarked new q
  pub across : IsSymmetric size old → IsSymmetric size new
  pub front : (q : ℕ) → q < from → get_or new q false ≡ get_or old q false

-- what is marked in row k behind its first marked place p behind the diagonal is marked in row p too
abbrev pub PassesOn : ℕ → List Bool → ℕ → Type 0
PassesOn size marks k =
    (p j : ℕ) → k < p → p < j → j < size → IsMarked marks (k * size + p) → ((i : ℕ) → k < i → i < p → get_or marks (k * size + i) false ≡ false)
    → IsMarked marks (k * size + j) → IsMarked marks (p * size + j)

-- each of the places is marked
abbrev pub Covers : ℕ → List Spot → List Bool → Type 0
Covers size places marks = All (λ s. IsMarked marks (s.row * size + s.column)) places

-- the places, the diagonal and all fill are marked: with two places of a row behind the diagonal the one where the row of the first meets the column of the second
pub record IsFilled (size : ℕ) (places : List Spot) (marks : List Bool) : Type 0 where
  pub square : length marks ≡ size * size
  pub covers : Covers size places marks
  pub diagonal : (k : ℕ) → k < size → IsMarked marks (k * size + k)
  pub across : IsSymmetric size marks
  pub closed : (k i j : ℕ) → k < i → i < j → j < size → IsMarked marks (k * size + i) → IsMarked marks (k * size + j) → IsMarked marks (i * size + j)

-- the gaps of each of the first n rows
abbrev pub HasGaps : ℕ → ℕ → List Bool → List ℕ → Type 0
HasGaps n size marks gaps = (r : ℕ) → r < n → take size (drop (r * size) gaps) ≡ gaps_of (take size (drop (r * size) marks))
