-- Driving-point impedances.
use Rattle.std.specs.Prelude.{ℕ}
use Rattle.exact_algebra.specs.Ratio.{Ratio, ratio_numbers}
use Rattle.exact_algebra.specs.Complex.{Complex, complex_numbers, real}
use Rattle.linear_systems.specs.Assembly.{where_equal}
use Rattle.network_theory.specs.Order.{Order}
use Rattle.network_theory.specs.Network.{Network}
use Rattle.network_theory.specs.Live.{Live}
use Rattle.network_theory.specs.State.{State, IsExactState, IsZeroState}
open complex_numbers use {◌≈◌, nought, unit, ◌⊗◌}

-- the injection 1 at node k and 0 elsewhere
abbrev pub unit_at : ℕ → ℕ → Complex
unit_at k n = where_equal complex_numbers k n unit

-- the injection 0 everywhere
abbrev pub no_injection : ℕ → Complex
no_injection n = nought

-- only the zero state has no injection
pub record HasOnlyZeroState (network : Network) (h : Order) : Type 0 where
  pub zero : (s : State) → IsExactState network h no_injection s → IsZeroState network s

-- Z is the driving-point impedance of the live node k at order h
pub record IsDrivingPoint (network : Network) (h : Order) (k : ℕ) (Z : Complex) : Type 0 where
  pub live : Live network k
  -- some exact state for the injection 1 at k and 0 elsewhere has V_k = Z
  pub state : State
  pub exact : IsExactState network h (unit_at k) state
  pub at_node : state.voltage k ≈ Z
  -- the injection 0 everywhere has only the zero state
  pub only_zero : HasOnlyZeroState network h

-- in ohms: Z·v²/s, with v in kV and s in MVA
unfoldable pub in_ohms : Ratio → Ratio → Complex → Complex
in_ohms kv mva Z = Z ⊗ real (ratio_numbers.◌⊗◌ (ratio_numbers.◌⊗◌ kv kv) (ratio_numbers.inverse mva))
