-- What contracts see of an assembly.
use Rattle.std.specs.Prelude.{◌≡◌, ℕ, ◌≤◌, List, length}
use Rattle.net_branch.specs.declared.limits.TheConstants.{MAX_NODES, MAX_BRANCHES}
use Rattle.network_theory.specs.Network.{Network, IsWhole}
use Rattle.admittance_box.specs.Addends.{Addend, addends_between}
use Rattle.admittance_box.specs.HeldMatrix.{CanAssemble}

-- a pair of networks, the driven node, and the node ordering that they have
pub record Assembled : Type 0 where
  pub low : Network
  pub high : Network
  pub driven : ℕ
  pub ordering : List ℕ

-- the assembly is that of these networks and of this driven node
pub record IsMade (low high : Network) (driven : ℕ) (a : Assembled) : Type 0 where
  pub from_low : a.low ≡ low
  pub to_high : a.high ≡ high
  pub at : a.driven ≡ driven
  pub ready : CanAssemble a.low a.high a.driven a.ordering

-- what an assembly keeps: networks for which it is meant, and what each branch adds
pub record IsKept (s : ℕ) (a : Assembled) (addends : List Addend) : Type 0 where
  pub whole : IsWhole a.low
  pub ready : CanAssemble a.low a.high a.driven a.ordering
  pub few_nodes : length a.ordering ≤ MAX_NODES
  pub few_branches : length a.low.branches ≤ MAX_BRANCHES
  pub same : addends ≡ addends_between s a.ordering a.low.branches a.high.branches
