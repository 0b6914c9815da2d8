-- What an estimate says of exact networks.
use Rattle.std.specs.Prelude.{◌≡◌, ℕ, List, Ok}
use Rattle.exact_algebra.specs.Ratio.{Ratio}
use Rattle.exact_algebra.specs.Complex.{Complex}
use Rattle.complex_interval.specs.Rectangles.{EnclosesComplex}
use Rattle.network_theory.specs.Order.{Order, IsOrder}
use Rattle.network_theory.specs.Box.{LiesIn}
use Rattle.network_theory.specs.Network.{Network}
use Rattle.network_theory.specs.Between.{LiesBetween}
use Rattle.network_theory.specs.Extra.{scanned_network}
use Rattle.branchwise_laws.specs.Laws.{HasImpedanceNear}
use Rattle.branchwise_laws.specs.Wholes.{units}
use Rattle.admittance_box.specs.HeldMatrix.{CanAssemble}
use Rattle.branchwise_test.specs.Enclosed.{Near, impedance_near_with}

-- the driving-point impedance exists, is the only one, and lies within the error of some number that the estimate holds
pub record IsNear (s : ℕ) (network : Network) (h : Order) (driven : ℕ) (near : Near) : Type 0 where
  pub number : Complex
  pub held : EnclosesComplex s near.estimate number
  pub impedance : HasImpedanceNear network h driven number (units s near.error)

-- so at every order of the box, for every network between the two as it is scanned with an extra susceptance e
abbrev pub IsNearEach : ℕ → Network → Network → ℕ → Ratio → ℕ → ℕ → Near → Type 0
IsNearEach s low high driven e lo hi near =
    (h : Order) → IsOrder h → LiesIn h (record { lo = lo; hi = hi }) → (network : Network) → LiesBetween network low high → IsNear s (scanned_network network driven e) h driven near

-- an estimate says this wherever there is one
abbrev pub ImpedanceIsNear : ℕ → Type 0
ImpedanceIsNear s =
    (low high : Network) (driven : ℕ) (ordering : List ℕ) → CanAssemble low high driven ordering
    → (e : Ratio) (lo hi : ℕ) (near : Near) → impedance_near_with s low high ordering e lo hi ≡ Ok near → IsNearEach s low high driven e lo hi near
