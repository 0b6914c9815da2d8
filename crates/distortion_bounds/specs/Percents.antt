-- Bounds in ten-thousandths of a percent, by the roots of squares.
use Rattle.std.specs.Prelude.{ℕ, suc, ◌-◌, ◌*◌, ◌^◌, ℤ, pos, ◌*ℤ◌, int_lt, unsigned_abs, Option, Some, None, IfSome, if◌then◌else◌}
use Rattle.exact_algebra.specs.Floor.{floor_div, ceil_div}
use Rattle.exact_algebra.specs.Ratio.{Ratio, ◌≼◌, whole, times}
use Rattle.exact_fraction.specs.Root.{root_ceil_of}
use Rattle.ieee519_limits.specs.declared.bounds.PercentBounds.{PercentBounds}
use Rattle.admittance_box.specs.Steps.{◌>>=◌}
use Rattle.distortion_bounds.specs.declared.squares.Squares.{Squares}
use Rattle.distortion_bounds.specs.Squares.{HoldsSquare}

-- the greatest whole number whose square is at most n
unfoldable pub root_floor_of : ℕ → ℕ
root_floor_of n = root_ceil_of (suc n) - 1

-- the root of n, rounded down, times rho / 2^scale, rounded down
abbrev pub low_bound : Ratio → ℕ → ℕ → ℤ
low_bound rho scale n = floor_div (pos (root_floor_of n) *ℤ rho.num) (suc rho.den_less_one * 2 ^ scale)

-- the root of n, rounded up, times rho / 2^scale, rounded up
abbrev pub high_bound : Ratio → ℕ → ℕ → ℤ
high_bound rho scale n = ceil_div (pos (root_ceil_of n) *ℤ rho.num) (suc rho.den_less_one * 2 ^ scale)

-- a bound, where it is below 2^64
abbrev pub in_range : ℤ → Option ℕ
in_range bound = if int_lt bound (pos (2 ^ 64)) then Some (unsigned_abs bound) else None

-- the bounds of the root of so many times a square, times rho / 2^scale
unfoldable pub bounds_of : ℕ → Ratio → ℕ → Squares → Option PercentBounds
bounds_of count rho scale q = do
  lo ← in_range (low_bound rho scale (count * q.lo))
  hi ← in_range (high_bound rho scale (count * q.hi))
  Some (record { lo = lo; hi = hi })

-- a value whose square is x lies between the bounds
pub record HoldsRoot (b : PercentBounds) (x : Ratio) : Type 0 where
  pub low : times (whole (pos b.lo)) (whole (pos b.lo)) ≼ x
  pub high : x ≼ times (whole (pos b.hi)) (whole (pos b.hi))

-- so does the root of so many times each square between the two, times rho
abbrev pub HoldsRoots : ℕ → Ratio → ℕ → Squares → Option PercentBounds → Type 0
HoldsRoots count rho scale q bounds = (x : Ratio) → HoldsSquare scale q x → IfSome bounds (λ b. HoldsRoot b (times (times (whole (pos count)) x) (times rho rho)))
