-- Networks of one bus, whose branches go to ground: cases that can be worked by hand.
use Rattle.std.specs.Prelude.{pos, negsuc, List, [], ◌∷◌, map}
use Rattle.exact_algebra.specs.Ratio.{Ratio, ◌≈◌ as ◌≈ᵣ◌, over, whole, times}
use Rattle.exact_algebra.specs.Complex.{Complex, complex_numbers, complex_over, ◌+j◌, square_size}
use Rattle.network_theory.specs.Order.{Order, fraction}
use Rattle.network_theory.specs.Branch.{Law, Series, Shunt, Branch}
use Rattle.network_theory.specs.Network.{Network}
use Rattle.network_theory.specs.Impedance.{series_impedance, shunt_admittance}
use Rattle.network_theory.specs.DrivingPoint.{IsDrivingPoint, in_ohms}
use Rattle.network_theory.specs.Threshold.{IsAbove, flat, per_unit}
open complex_numbers use {◌≈◌, nought, unit, ◌⊕◌, ◌⊗◌}

-- an uncoupled branch with one tap of ratio 1, at node 0
abbrev pub to_ground : Law → Branch
to_ground law = record { taps = record { node = 0; ratio = whole (pos 1) } ∷ []; law = law; group = 0; owner = 1 }

-- a network of one bus with a branch to ground for each law
abbrev pub one_bus : List Law → Network
one_bus laws = record { buses = 1; nodes = 1; branches = map to_ground laws }

-- one Series with r and x to ground: the impedance exists and is r + jhx, also where it is zero
abbrev pub SeriesAlone : Type 0
SeriesAlone = (h : Order) (r m x : Ratio) → IsDrivingPoint (one_bus (Series r (whole (pos 0)) m x (whole (pos 0)) ∷ [])) h 0 (r +j times (fraction h) x)

-- a Series of admittance y with a Shunt of susceptance b beside it
pub record SeriesBesideShunt (h : Order) (r k m x xc b : Ratio) (y : Complex) : Type 0 where
  -- where the sum of the admittances isn't zero, the impedance is its inverse, and no other number
  pub exists : ¬ (y ⊕ shunt_admittance b h ≈ nought) → (Z : Complex) → Z ⊗ (y ⊕ shunt_admittance b h) ≈ unit → IsDrivingPoint (one_bus (Series r k m x xc ∷ Shunt b ∷ [])) h 0 Z
  pub only : ¬ (y ⊕ shunt_admittance b h ≈ nought) → (Z : Complex) → IsDrivingPoint (one_bus (Series r k m x xc ∷ Shunt b ∷ [])) h 0 Z → Z ⊗ (y ⊕ shunt_admittance b h) ≈ unit
  -- where the sum is zero, there is none
  pub none : y ⊕ shunt_admittance b h ≈ nought → (Z : Complex) → ¬ IsDrivingPoint (one_bus (Series r k m x xc ∷ Shunt b ∷ [])) h 0 Z

-- the law of a shunt beside a series branch that has an admittance
abbrev pub BesideShunt : Type 0
BesideShunt = (h : Order) (r k m x xc b : Ratio) (y : Complex) → series_impedance r k m x xc h ⊗ y ≈ unit → SeriesBesideShunt h r k m x xc b y

-- order 13/4, with r = 0 and x = 1, at 10 kV and 100 MVA: the impedance has 3.25 ohms, and is above half an ohm
pub record AtThreeAndAQuarter : Type 0 where
  pub exists : IsDrivingPoint (one_bus (Series (whole (pos 0)) (whole (pos 0)) (whole (pos 1)) (whole (pos 1)) (whole (pos 0)) ∷ [])) (record { n = 13; d = 4 }) 0 (complex_over (pos 0) (pos 13) 4)
  pub ohms : square_size (in_ohms (whole (pos 10)) (whole (pos 100)) (complex_over (pos 0) (pos 13) 4)) ≈ᵣ times (over (pos 325) 100) (over (pos 325) 100)
  pub above : IsAbove (per_unit (flat (over (pos 1) 2)) (whole (pos 10)) (whole (pos 100)) (record { n = 13; d = 4 })) (complex_over (pos 0) (pos 13) 4)

-- order 5, with r = 0 and x = 1 beside b = 4/100: no impedance exists
abbrev pub NoneAtFive : Type 0
NoneAtFive = (Z : Complex) → ¬ IsDrivingPoint (one_bus (Series (whole (pos 0)) (whole (pos 0)) (whole (pos 1)) (whole (pos 1)) (whole (pos 0)) ∷ Shunt (over (pos 4) 100) ∷ [])) (record { n = 5; d = 1 }) 0 Z

-- order 21/4, with r = 1/10 and x = 1 beside b = 4/100: at 10 kV and 100 MVA, where 1 per unit is 1 ohm, the impedance has about 50.186 ohms
pub record AtFiveAndAQuarter : Type 0 where
  pub exists : IsDrivingPoint (one_bus (Series (over (pos 1) 10) (whole (pos 0)) (whole (pos 1)) (whole (pos 1)) (whole (pos 0)) ∷ Shunt (over (pos 4) 100) ∷ [])) (record { n = 21; d = 4 }) 0 (complex_over (pos 4411600000) (negsuc 23832566099) 482948881)
  pub square : square_size (complex_over (pos 4411600000) (negsuc 23832566099) 482948881) ≈ᵣ over (pos 1216388410000) 482948881
