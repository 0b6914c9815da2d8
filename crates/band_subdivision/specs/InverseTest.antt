-- The inverse part of the interval test of a box of orders: by the enclosed impedance of the driven node.
use Rattle.std.specs.Prelude.{ℕ, suc, ◌+◌, ◌-◌, ◌*◌, ◌/◌, ◌^◌, ℤ, pos, ◌*ℤ◌, unsigned_abs, Bool, false, nat_lt, int_le, if◌then◌else◌, Option, Some, None}
use Rattle.exact_algebra.specs.Ratio.{Ratio, den, over}
use Rattle.exact_fraction.specs.Scaled.{end_of, floor_scaled_of, ceil_scaled_of}
use Rattle.exact_fraction.specs.Root.{root_ceil_of}
use Rattle.certified_inverse.specs.declared.outcome.InverseOutcome.{InverseOutcome}
use Rattle.certified_inverse.specs.declared.outcome.InverseOutcome.TheVariants.{Enclosed}
use Rattle.band_subdivision.specs.Boxes.{BoxTest}
use Rattle.band_subdivision.specs.Levels.{Levels}

-- T = threshold·s/v² per unit: the millionths cancel
unfoldable pub unit_threshold : Levels → Ratio
unit_threshold levels = over (levels.threshold.num *ℤ levels.mva) (unsigned_abs (levels.kv *ℤ levels.kv *ℤ den levels.threshold))

-- T in units of 1 / 2^scale, rounded down
unfoldable pub most_within : ℕ → Levels → Option ℤ
most_within scale levels = end_of (floor_scaled_of (unit_threshold levels) scale)

-- the same, rounded up
unfoldable pub least_above : ℕ → Levels → Option ℤ
least_above scale levels = end_of (ceil_scaled_of (unit_threshold levels) scale)

-- re² + im²
abbrev pub point_square : ℤ → ℤ → ℕ
point_square re im = unsigned_abs re * unsigned_abs re + unsigned_abs im * unsigned_abs im

-- the greatest whole number whose square is at most n
unfoldable pub root_floor_of : ℕ → ℕ
root_floor_of n = root_ceil_of (suc n) - 1

-- a size is at most the bound
abbrev pub is_at_most : ℕ → Option ℤ → Bool
is_at_most size (Some bound) = int_le (pos size) bound
is_at_most size None = false

-- each number within the error of the value is at most the bound in size
abbrev pub is_within_by : Option ℤ → InverseOutcome → Bool
is_within_by bound (Enclosed re im error) = is_at_most (root_ceil_of (point_square re im) + error) bound
is_within_by bound _ = false

-- in micro-ohms, rounded down, a size of so many units of 1 / 2^scale per unit
unfoldable pub micro_ohms_from : ℕ → Levels → ℕ → ℕ
micro_ohms_from scale levels size = size * (unsigned_abs levels.kv * unsigned_abs levels.kv) / (2 ^ scale * unsigned_abs levels.mva)

-- of a size less an error that is more than the bound: its micro-ohms
abbrev pub ohms_beyond : ℕ → Levels → Option ℤ → ℕ → ℕ → Option ℤ
ohms_beyond scale levels (Some bound) size error = if nat_lt (unsigned_abs bound + error) size then Some (pos (micro_ohms_from scale levels (size - error))) else None
ohms_beyond scale levels None size error = None

-- each number within the error of the value is more than the bound in size: the micro-ohms of the least size
abbrev pub ohms_over_by : ℕ → Levels → Option ℤ → InverseOutcome → Option ℤ
ohms_over_by scale levels bound (Enclosed re im error) = ohms_beyond scale levels bound (root_floor_of (point_square re im)) error
ohms_over_by scale levels bound _ = None

-- the test of boxes by their levels and enclosed impedances
unfoldable pub inverse_test : ℕ → (ℕ → ℕ → Levels) → (ℕ → ℕ → InverseOutcome) → BoxTest
inverse_test scale levels enclosed = record {
  clear = λ lo hi. is_within_by (most_within scale (levels lo hi)) (enclosed lo hi);
  above = λ lo hi. ohms_over_by scale (levels lo hi) (least_above scale (levels lo hi)) (enclosed lo hi);
}
