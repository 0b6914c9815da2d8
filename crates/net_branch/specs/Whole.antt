-- Whole networks, and networks that are being built.
use Rattle.std.specs.Prelude.{ℕ, ◌≤◌, ◌<◌, List, ◌++◌, map, length}
use Rattle.std.specs.List.{AllByRecursion}
use Rattle.network_theory.specs.Branch.{Branch as ExactBranch}
use Rattle.network_theory.specs.Network.{IsGrouped, IsWhole}
use Rattle.net_branch.specs.declared.limits.TheConstants.{MAX_NODES, MAX_BRANCHES}
use Rattle.net_branch.specs.declared.network.Branch.{Branch}
use Rattle.net_branch.specs.declared.network.Network.{Network}
use Rattle.net_branch.specs.Exact.{exact_network, exact_branch}

-- at most as many nodes and branches as a network may have
pub record IsWithinLimits (network : Network) : Type 0 where
  pub nodes : network.nodes ≤ MAX_NODES
  pub branches : length network.branches ≤ MAX_BRANCHES

-- within the limits, and whole as an exact network
pub record IsWholeNetwork (network : Network) : Type 0 where
  pub limits : IsWithinLimits network
  pub exact : IsWhole (exact_network network)

-- each tap is at one of so many nodes
abbrev pub AreAtNodes : ℕ → List Branch → Type 0
AreAtNodes nodes branches = AllByRecursion (λ b. AllByRecursion (λ t. t.node.number < nodes) b.taps) branches

-- uncoupled branches and complete groups, of which the last may still lack its last one or two branches
pub record IsGrouping (branches : List Branch) : Type 0 where
  -- the branches that the last group lacks
  pub lacking : List ExactBranch
  pub few : length lacking ≤ 2
  pub grouped : IsGrouped (map exact_branch branches ++ lacking)

-- whole, but that the last group may still lack its last one or two branches
pub record IsGrowing (network : Network) : Type 0 where
  pub limits : IsWithinLimits network
  pub buses : network.buses ≤ network.nodes
  pub taps : AreAtNodes network.nodes network.branches
  pub groups : IsGrouping network.branches
