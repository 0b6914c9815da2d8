-- What a scan finds out at an order.
use Rattle.std.specs.Prelude.{ℕ, pos, ◌^◌}
use Rattle.exact_algebra.specs.Ratio.{Ratio, over, times, ◌≼◌}
use Rattle.exact_algebra.specs.Complex.{Complex, square_size}
use Rattle.network_theory.specs.Order.{Order, IsOrder}
use Rattle.network_theory.specs.Box.{Box, LiesIn}
use Rattle.network_theory.specs.Network.{Network}
use Rattle.network_theory.specs.DrivingPoint.{IsDrivingPoint, in_ohms}
use Rattle.network_theory.specs.Threshold.{Threshold, per_unit, IsWithin, IsAbove}

-- the driving-point impedance of node k exists and is within the threshold T per unit
pub record IsClearedAt (network : Network) (h : Order) (k : ℕ) (T : Ratio) : Type 0 where
  pub Z : Complex
  pub exists : IsDrivingPoint network h k Z
  pub within : IsWithin T Z

-- it exists and is above
pub record IsPeakAt (network : Network) (h : Order) (k : ℕ) (T : Ratio) : Type 0 where
  pub Z : Complex
  pub exists : IsDrivingPoint network h k Z
  pub above : IsAbove T Z

-- at every fractional order in the box, its ends included, the impedance of node k exists and is within
abbrev pub IsCleared : Network → ℕ → Threshold → Ratio → Ratio → Box → Type 0
IsCleared network k threshold kv mva box = (h : Order) → IsOrder h → LiesIn h box → IsClearedAt network h k (per_unit threshold kv mva h)

-- whole micro-orders, as an order
abbrev pub micro : ℕ → Order
micro at = record { n = at; d = 10 ^ 6 }

-- `at` is an order and lies in the box; there the impedance exists, is above, and has at least this many micro-ohms
pub record IsPeak (network : Network) (k : ℕ) (threshold : Threshold) (kv mva : Ratio) (box : Box) (at micro_ohms : ℕ) : Type 0 where
  pub is_order : IsOrder (micro at)
  pub inside : LiesIn (micro at) box
  pub there : IsPeakAt network (micro at) k (per_unit threshold kv mva (micro at))
  pub ohms : times (over (pos micro_ohms) (10 ^ 6)) (over (pos micro_ohms) (10 ^ 6)) ≼ square_size (in_ohms kv mva there.Z)
