-- What an estimate with its error says of a threshold T per unit.
use Rattle.std.specs.Prelude.{◌≡◌, ℕ, ◌+◌, ◌-◌, ◌*◌, ℤ, pos, negsuc, Bool, true, false, ◌&&◌, nat_le, Option, Some, None}
use Rattle.exact_algebra.specs.Ratio.{Ratio, whole, ◌≼◌}
use Rattle.exact_fraction.specs.Scaled.{end_of, floor_scaled_of, ceil_scaled_of}
use Rattle.complex_interval.specs.Rectangles.{low_square_sum, high_square_sum}
use Rattle.network_theory.specs.Order.{Order}
use Rattle.network_theory.specs.Network.{Network}
use Rattle.network_theory.specs.Scanned.{IsClearedAt, IsPeakAt}
use Rattle.branchwise_test.specs.Enclosed.{Near}
use Rattle.branchwise_test.specs.Holds.{IsNear}

-- T·2^s rounded down, and rounded up, if it is in range
abbrev pub level_below : ℕ → Ratio → Option ℤ
level_below s T = end_of (floor_scaled_of T s)

abbrev pub level_above : ℕ → Ratio → Option ℤ
level_above s T = end_of (ceil_scaled_of T s)

-- clear: the greatest size of the estimate, with the error, is at most the level below
abbrev pub is_clear_near : Option ℤ → Near → Bool
is_clear_near (Some (pos level)) near = nat_le near.error level && nat_le (high_square_sum near.estimate) ((level - near.error) * (level - near.error))
is_clear_near (Some (negsuc n)) near = false
is_clear_near None near = false

-- above: the least size of the estimate, rounded down to a whole number and less the error, is above the level above
abbrev pub is_above_near : Option ℤ → Near → Bool
is_above_near (Some (pos level)) near = nat_le ((level + near.error + 1) * (level + near.error + 1)) (low_square_sum near.estimate)
is_above_near (Some (negsuc n)) near = false
is_above_near None near = false

-- the impedance is within the threshold where the estimate is clear, and above it where that is above
pub record AnswersAreTrue (s : ℕ) : Type 0 where
  pub clear : (network : Network) (h : Order) (driven : ℕ) (near : Near) (T : Ratio) → IsNear s network h driven near → is_clear_near (level_below s T) near ≡ true → IsClearedAt network h driven T
  pub above : (network : Network) (h : Order) (driven : ℕ) (near : Near) (T : Ratio) → IsNear s network h driven near → whole (pos 0) ≼ T → is_above_near (level_above s T) near ≡ true → IsPeakAt network h driven T
