-- The live nodes of a network, as one value for each node.
use Rattle.std.specs.Prelude.{◌≡◌, ℕ, ◌<◌, ◌↔◌, Bool, false, IsTrue, List, length, get_or}
use Rattle.network_theory.specs.Live.{Live}
use Rattle.net_branch.specs.declared.network.Network.{Network}
use Rattle.net_branch.specs.Exact.{exact_network}

-- one value for each node, true exactly where the node is live
pub record AreLive (network : Network) (values : List Bool) : Type 0 where
  pub count : length values ≡ network.nodes
  pub each : (n : ℕ) → n < network.nodes → IsTrue (get_or values n false) ↔ Live (exact_network network) n
