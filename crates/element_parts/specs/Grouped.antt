-- Elements of branches that stand alone and of groups of three.
use Rattle.std.specs.Prelude.{◌≢◌, ◌+◌, ◌<◌}
use Rattle.std.specs.List.{AllByRecursion}
use Rattle.network_theory.specs.Branch.{Law, Series, Shunt, Coupled3}
use Rattle.network_theory.specs.Network.{Network, IsGrouped}
use Rattle.element_parts.specs.Expansion.{Expansion}
use Rattle.element_parts.specs.Plain.{IsPlainLaw}

-- a law other than zero: that of a branch that stands alone, or that of a coupled one, of whatever values
abbrev pub IsNonZeroLaw : Law → Type 0
IsNonZeroLaw (Series r k m x xc) = IsPlainLaw (Series r k m x xc)
IsNonZeroLaw (Shunt b) = IsPlainLaw (Shunt b)
IsNonZeroLaw (Coupled3 place c) = Unit {0}

-- an element that a network takes: it is at the network's nodes and its own inner ones, its groups are complete, and no branch of the network has
-- the number of one
pub record IsGroupedElement (network : Network) (e : Expansion) : Type 0 where
  pub taps : AllByRecursion (λ b. AllByRecursion (λ t. t.node < network.nodes + e.inner) b.taps) e.branches
  pub laws : AllByRecursion (λ b. IsNonZeroLaw b.law) e.branches
  pub groups : IsGrouped e.branches
  pub apart : AllByRecursion (λ b. b.group ≢ 0 → AllByRecursion (λ o. o.group ≢ b.group) network.branches) e.branches
