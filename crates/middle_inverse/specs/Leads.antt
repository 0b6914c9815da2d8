-- Lists that lead over the zeros of a row, from place to place.
use Rattle.std.specs.Prelude.{◌≡◌, ℕ, ◌+◌, ◌<◌, ◌≤◌, List, get_or, length}
use Rattle.complex_interval.specs.Rectangles.{Rectangle}
use Rattle.sparse_rows.specs.Listed.{ZeroAt}

-- of each place among the n from this one on, and of n itself, the list has the next place to look at, which may be the place itself, or n: each place that
-- is passed over is of the kind P
pub record Leads (P : ℕ → Type 0) (n from : ℕ) (next : List ℕ) : Type 0 where
  pub size : length next ≡ n + 1
  pub forward : (i : ℕ) → from ≤ i → i ≤ n → i ≤ get_or next i 0
  pub within : (i : ℕ) → from ≤ i → i ≤ n → get_or next i 0 ≤ n
  pub between : (i j : ℕ) → from ≤ i → i ≤ n → i ≤ j → j < get_or next i 0 → P j

-- it leads over zeros alone
abbrev pub LeadsOver : List Rectangle → List ℕ → Type 0
LeadsOver xs next = Leads (ZeroAt xs) (length xs) 0 next
