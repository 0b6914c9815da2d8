-- Networks of one node, whose branches go from it to ground.
use Rattle.std.specs.Prelude.{◌≡◌, pos, List, [], ◌∷◌, Contains}
use Rattle.std.specs.List.{AllZip}
use Rattle.exact_algebra.specs.Ratio.{whole}
use Rattle.exact_algebra.specs.Complex.{Complex, complex_numbers}
use Rattle.network_theory.specs.Order.{Order}
use Rattle.network_theory.specs.Branch.{Tap, Branch}
use Rattle.network_theory.specs.Network.{Network}
use Rattle.network_theory.specs.Admittance.{IsAdmittance}
use Rattle.network_theory.specs.Reduced.{IsReducedTo}
open complex_numbers use {nought, ◌⊕◌}

-- the tap of a branch from node 0 to ground
abbrev pub ground_tap : Tap
ground_tap = record { node = 0; ratio = whole (pos 1) }

-- there is a branch, and each goes from node 0 to ground
pub record IsOneNode (network : Network) : Type 0 where
  pub first : Branch
  pub has : Contains network.branches first
  pub each : (b : Branch) → Contains network.branches b → b.taps ≡ ground_tap ∷ []

-- the sum of admittances
abbrev pub sum_of : List Complex → Complex
sum_of [] = nought
sum_of (y ∷ ys) = y ⊕ sum_of ys

-- the nodal matrix of such a network is the sum of its branches' admittances
abbrev pub OneNodeReduced : Type 0
OneNodeReduced = (network : Network) (h : Order) (ys : List Complex) → IsOneNode network → AllZip (λ b y. IsAdmittance h b.law y) network.branches ys → IsReducedTo network h 0 (sum_of ys)
