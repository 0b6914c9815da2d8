-- Squares of sizes between two whole numbers, in units of 1 / 4^scale.
use Rattle.std.specs.Prelude.{ℕ, ◌^◌, ◌≤◌, pos, ◌*ℤ◌, ◌≤ℤ◌}
use Rattle.exact_algebra.specs.Ratio.{Ratio, den}
use Rattle.complex_interval.specs.Rectangles.{Rectangle, low_square_sum, high_square_sum}
use Rattle.distortion_bounds.specs.declared.squares.Squares.{Squares}

-- the least and the greatest square of the size of what a rectangle holds
abbrev pub squares_of : Rectangle → Squares
squares_of a = record { lo = low_square_sum a; hi = high_square_sum a }

-- the square x lies between the two
pub record HoldsSquare (s : ℕ) (q : Squares) (x : Ratio) : Type 0 where
  pub low : (pos q.lo *ℤ den x) ≤ℤ (x.num *ℤ pos (4 ^ s))
  pub high : (x.num *ℤ pos (4 ^ s)) ≤ℤ (pos q.hi *ℤ den x)

-- in order, and at most 2^125
pub record AreSquares (q : Squares) : Type 0 where
  pub ordered : q.lo ≤ q.hi
  pub small : q.hi ≤ 2 ^ 125
