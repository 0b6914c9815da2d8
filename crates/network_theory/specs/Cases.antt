-- Boxes, thresholds, networks and scans that can be worked by hand.
use Rattle.std.specs.Prelude.{ℕ, pos, [], ◌∷◌}
use Rattle.exact_algebra.specs.Ratio.{Ratio, ◌≈◌, over, whole}
use Rattle.exact_algebra.specs.Complex.{complex_over}
use Rattle.network_theory.specs.Order.{Order}
use Rattle.network_theory.specs.Branch.{Series, Coupling, Branch}
use Rattle.network_theory.specs.Network.{Network, IsWhole}
use Rattle.network_theory.specs.Live.{Live}
use Rattle.network_theory.specs.Box.{Box, LiesIn, Covers}
use Rattle.network_theory.specs.Threshold.{flat, per_unit, IsWithin, IsAbove}
use Rattle.network_theory.specs.Between.{IsPair, LiesBetween}
use Rattle.network_theory.specs.Scanned.{IsCleared, IsPeak}
use Rattle.network_theory.specs.OneBus.{one_bus}
use Rattle.network_theory.specs.Phases.{three_phases, phase_to_ground}

-- from lo to hi
abbrev pub box : ℕ → ℕ → Box
box lo hi = record { lo = lo; hi = hi }

-- orders in the box from 3 to 3.5, and boxes from 1 to 2
pub record WorkedBoxes : Type 0 where
  pub inside : LiesIn (record { n = 10; d = 3 }) (box 3000000 3500000)
  pub low_end : LiesIn (record { n = 3; d = 1 }) (box 3000000 3500000)
  pub high_end : LiesIn (record { n = 7; d = 2 }) (box 3000000 3500000)
  pub above : ¬ LiesIn (record { n = 71; d = 20 }) (box 3000000 3500000)
  pub below : ¬ LiesIn (record { n = 29; d = 10 }) (box 3000000 3500000)
  pub covered : Covers 1000000 2000000 (box 1000000 1500000 ∷ box 1500000 2000000 ∷ [])
  pub gap : ¬ Covers 1000000 2000000 (box 1000000 1400000 ∷ box 1500000 2000000 ∷ [])
  pub short : ¬ Covers 1000000 2000000 (box 1000000 1500000 ∷ [])
  pub point : ¬ Covers 1000000 1000000 (box 1000000 1000000 ∷ [])
  pub none : ¬ Covers 1000000 1000000 []

-- 20 ohms at 20 kV and 100 MVA are 5 per unit; the impedance (3 + 4j)/10 has the size 1/2
pub record WorkedThresholds : Type 0 where
  pub five : (h : Order) → per_unit (flat (whole (pos 20))) (whole (pos 20)) (whole (pos 100)) h ≈ whole (pos 5)
  pub at_most : IsWithin (over (pos 1) 2) (complex_over (pos 3) (pos 4) 10)
  pub not_above : ¬ IsAbove (over (pos 1) 2) (complex_over (pos 3) (pos 4) 10)
  pub above : IsAbove (over (pos 49) 100) (complex_over (pos 3) (pos 4) 10)
  pub not_within : ¬ IsWithin (over (pos 49) 100) (complex_over (pos 3) (pos 4) 10)

-- a branch between two nodes
abbrev pub tie : Branch
tie = record {
  taps = record { node = 0; ratio = whole (pos 1) } ∷ record { node = 1; ratio = whole (pos 1) } ∷ [];
  law = Series (whole (pos 1)) (whole (pos 0)) (whole (pos 1)) (whole (pos 1)) (whole (pos 0));
  group = 0;
  owner = 1;
}

-- two buses with this branch alone, and nothing to ground
abbrev pub adrift : Network
adrift = record { buses = 2; nodes = 2; branches = tie ∷ [] }

-- two phases of a group of three
abbrev pub two_phases : Coupling → Network
two_phases values = record { buses = 3; nodes = 3; branches = phase_to_ground 0 values ∷ phase_to_ground 1 values ∷ [] }

-- one bus with the resistance r and the reactance 1 to ground
abbrev pub grounded_bus : Ratio → Network
grounded_bus r = one_bus (Series r (whole (pos 0)) (whole (pos 1)) (whole (pos 1)) (whole (pos 0)) ∷ [])

-- whole networks and others, live nodes and others, networks between two
pub record WorkedNetworks : Type 0 where
  pub whole_one : (r : Ratio) → IsWhole (grounded_bus r)
  pub whole_three : (values : Coupling) → IsWhole (three_phases values)
  pub lacks_a_phase : (values : Coupling) → ¬ IsWhole (two_phases values)
  pub whole_adrift : IsWhole adrift
  pub all_dead : (n : ℕ) → ¬ Live adrift n
  pub between : LiesBetween (grounded_bus (over (pos 3) 2)) (grounded_bus (whole (pos 1))) (grounded_bus (whole (pos 2)))
  pub not_turned : ¬ IsPair (grounded_bus (whole (pos 2))) (grounded_bus (whole (pos 1)))

-- the reactance h at 10 kV and 100 MVA: at most 2 ohms from order 1 to order 2, and above half an ohm at order 3.25, where it has 3.25 ohms
pub record WorkedScan : Type 0 where
  pub cleared : IsCleared (grounded_bus (whole (pos 0))) 0 (flat (whole (pos 2))) (whole (pos 10)) (whole (pos 100)) (box 1000000 2000000)
  pub peak : IsPeak (grounded_bus (whole (pos 0))) 0 (flat (over (pos 1) 2)) (whole (pos 10)) (whole (pos 100)) (box 3000000 3500000) 3250000 3250000
  -- a box that goes beyond order 2 isn't cleared
  pub not_cleared : ¬ IsCleared (grounded_bus (whole (pos 0))) 0 (flat (whole (pos 2))) (whole (pos 10)) (whole (pos 100)) (box 1000000 2000001)

-- all of these
pub record WorkedCases : Type 0 where
  pub boxes : WorkedBoxes
  pub thresholds : WorkedThresholds
  pub networks : WorkedNetworks
  pub scan : WorkedScan
