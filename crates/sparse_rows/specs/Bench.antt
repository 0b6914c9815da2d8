-- What contracts see of a bench.
use Rattle.std.specs.Prelude.{ℕ, ◌*◌, ◌+◌, ◌<◌, ◌≤◌, ◌≡◌, List, length}
use Rattle.complex_interval.specs.Rectangles.{Rectangle}
use Rattle.plain_elimination.specs.declared.pattern.Spot.{Spot}
use Rattle.plain_elimination.specs.Pattern.{IsNoPlace}
use Rattle.plain_elimination.specs.declared.limits.TheConstants.{MAX_SIZE}
use Rattle.sparse_rows.specs.Listed.{Out, ZeroOutside, IsFill}

-- a pattern: its size and its places
pub record Places : Type 0 where
  pub size : ℕ
  pub places : List Spot

-- a bench of a pattern
pub record IsBench (size : ℕ) (places : List Spot) (gaps : List ℕ) (cells sides : List Rectangle) : Type 0 where
  pub some : 1 ≤ size
  pub few : size ≤ MAX_SIZE
  pub gap_size : length gaps ≡ size * size
  pub square : length cells ≡ size * size
  pub side_size : length sides ≡ size
  pub fill : IsFill gaps size
  pub zeros : ZeroOutside gaps cells
  pub covered : (row column : ℕ) → row < size → column < size → Out gaps (row * size + column) → IsNoPlace places row column
