-- The elimination part of the interval test of a box of orders: by the reduced admittance of the driven node.
use Rattle.std.specs.Prelude.{ℕ, ◌*◌, ◌/◌, ◌^◌, ℤ, pos, ◌*ℤ◌, unsigned_abs, Bool, false, ◌&&◌, nat_le, nat_lt, if◌then◌else◌, Option, Some, None}
use Rattle.exact_algebra.specs.Ratio.{Ratio, den, over}
use Rattle.exact_fraction.specs.Scaled.{end_of, floor_scaled_of, ceil_scaled_of}
use Rattle.exact_fraction.specs.Root.{root_ceil_of}
use Rattle.complex_interval.specs.Rectangles.{Rectangle, low_square_sum, high_square_sum}
use Rattle.band_subdivision.specs.Boxes.{BoxTest}
use Rattle.band_subdivision.specs.Levels.{Levels}

-- 1/T = v²/(threshold·s), for the threshold T per unit: the millionths cancel
unfoldable pub inverse_threshold : Levels → Ratio
inverse_threshold levels = over (levels.kv *ℤ levels.kv *ℤ den levels.threshold) (unsigned_abs (levels.threshold.num *ℤ levels.mva))

-- 1/T in units of 1 / 2^scale, rounded up
unfoldable pub clear_bound : ℕ → Levels → Option ℤ
clear_bound scale levels = end_of (ceil_scaled_of (inverse_threshold levels) scale)

-- the same, rounded down
unfoldable pub above_bound : ℕ → Levels → Option ℤ
above_bound scale levels = end_of (floor_scaled_of (inverse_threshold levels) scale)

-- v²/s ohms over a size whose square is at most `high` in units of 1 / 4^scale: in micro-ohms, rounded down
unfoldable pub micro_ohms_of : ℕ → Levels → ℕ → ℕ
micro_ohms_of scale levels high = unsigned_abs levels.kv * unsigned_abs levels.kv * 2 ^ scale / (unsigned_abs levels.mva * root_ceil_of high)

-- each number of the rectangle is at least the bound in size
abbrev pub is_clear_by : Option ℤ → Option Rectangle → Bool
is_clear_by (Some bound) (Some y) = nat_le (unsigned_abs bound * unsigned_abs bound) (low_square_sum y)
is_clear_by (Some bound) None = false
is_clear_by None y = false

-- each number of the rectangle is less than the bound in size, and none is zero
abbrev pub is_above_by : ℤ → Rectangle → Bool
is_above_by bound y = nat_lt (high_square_sum y) (unsigned_abs bound * unsigned_abs bound) && nat_lt 0 (low_square_sum y)

-- the micro-ohms of such a rectangle
abbrev pub ohms_above_by : ℕ → Levels → Option ℤ → Option Rectangle → Option ℤ
ohms_above_by scale levels (Some bound) (Some y) = if is_above_by bound y then Some (pos (micro_ohms_of scale levels (high_square_sum y))) else None
ohms_above_by scale levels (Some bound) None = None
ohms_above_by scale levels None y = None

-- the test of boxes by their levels and reduced admittances: the impedance is within where each admittance is at least 1/T, and above where each is less and other than zero
unfoldable pub elimination_test : ℕ → (ℕ → ℕ → Levels) → (ℕ → ℕ → Option Rectangle) → BoxTest
elimination_test scale levels reduced = record {
  clear = λ lo hi. is_clear_by (clear_bound scale (levels lo hi)) (reduced lo hi);
  above = λ lo hi. ohms_above_by scale (levels lo hi) (above_bound scale (levels lo hi)) (reduced lo hi);
}
