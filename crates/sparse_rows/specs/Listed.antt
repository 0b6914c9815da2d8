-- Lists of places by gaps, and what is left out between them.
use Rattle.std.specs.Prelude.{ℕ, ◌+◌, ◌<◌, ◌≤◌, ◌≡◌, List, length, get_or, ◌*◌, ◌⊎◌}
use Rattle.complex_interval.specs.Rectangles.{Rectangle}
use Rattle.plain_elimination.specs.Matrix.{nought_rectangle}

-- zero alone at this place, or no such place
abbrev pub ZeroAt : List Rectangle → ℕ → Type 0
ZeroAt xs i = get_or xs i nought_rectangle ≡ nought_rectangle

-- the same at each place of this kind
abbrev pub Agree : (ℕ → Type 0) → List Rectangle → List Rectangle → Type 0
Agree P xs ys = (i : ℕ) → P i → get_or xs i nought_rectangle ≡ get_or ys i nought_rectangle

-- no entry is listed here: its gap is 0
abbrev pub Out : List ℕ → ℕ → Type 0
Out gaps i = get_or gaps i 1 ≡ 0

-- each place that isn't listed is zero
abbrev pub ZeroOutside : List ℕ → List Rectangle → Type 0
ZeroOutside gaps xs = (i : ℕ) → Out gaps i → ZeroAt xs i

-- from this start on, each gap leads to the next listed place or to the end: the places before the start and within a gap are of the kind P
pub record Skips (P : ℕ → Type 0) (gaps : List ℕ) (start : ℕ) : Type 0 where
  pub inside : start ≤ length gaps
  pub before : (i : ℕ) → i < start → P i
  pub first : start < length gaps → 1 ≤ get_or gaps start 0
  pub next : (i : ℕ) → i < length gaps → 1 ≤ get_or gaps i 0 → i + get_or gaps i 0 < length gaps → 1 ≤ get_or gaps (i + get_or gaps i 0) 0
  pub within : (i : ℕ) → i < length gaps → i + get_or gaps i 0 ≤ length gaps
  pub between : (i j : ℕ) → i < length gaps → i < j → j < i + get_or gaps i 0 → P j

-- a step keeps zero outside, of n rows of this width behind column c, whose pivot's row has these further entries: for each list of places
-- with no place where both the pivot's row and the row's first entry may differ from zero
abbrev pub KeepsZeros : List Rectangle → ℕ → ℕ → ℕ → List Rectangle → List Rectangle → Type 0
KeepsZeros first n width c old new =
    (all : List ℕ) → ZeroOutside all old
    → ((r j : ℕ) → r < n → j < n → Out all (r * width + c + 1 + j) → ZeroAt first j ⊎ Out all (r * width + c))
    → ZeroOutside all new

-- gaps of a square of this size, row after row, that list the places of a pattern with its fill: each diagonal place is listed, a place is listed with the
-- one across the diagonal, and with two places of a row behind the diagonal the place where the row of one meets the column of the other
pub record IsFill (gaps : List ℕ) (size : ℕ) : Type 0 where
  pub diagonal : (k : ℕ) → k < size → 1 ≤ get_or gaps (k * size + k) 0
  pub across : (i j : ℕ) → i < size → j < size → Out gaps (i * size + j) → Out gaps (j * size + i)
  pub closed : (k i j : ℕ) → k < i → k < j → i < size → j < size → Out gaps (i * size + j) → Out gaps (k * size + i) ⊎ Out gaps (k * size + j)
  pub within : (k j : ℕ) → k ≤ j → j < size → j + get_or gaps (k * size + j) 0 ≤ size
  pub next : (k j : ℕ) → k ≤ j → j < size → 1 ≤ get_or gaps (k * size + j) 0 → j + get_or gaps (k * size + j) 0 < size → 1 ≤ get_or gaps (k * size + (j + get_or gaps (k * size + j) 0)) 0
  pub between : (k i j : ℕ) → k ≤ i → i < j → j < i + get_or gaps (k * size + i) 0 → j < size → Out gaps (k * size + j)

-- the same at this place
abbrev pub SameAt : List Rectangle → List Rectangle → ℕ → Type 0
SameAt xs ys q = get_or ys q nought_rectangle ≡ get_or xs q nought_rectangle

-- what was as in the source still is
abbrev pub CloserTo : List Rectangle → List Rectangle → List Rectangle → Type 0
CloserTo source old new = (q : ℕ) → SameAt source old q → SameAt source new q
