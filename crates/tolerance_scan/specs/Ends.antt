-- The networks of a study with every tolerance one way.
use Rattle.std.specs.Prelude.{◌≡◌, Bool, List}
use Rattle.net_branch.specs.Exact.{exact_network}
use Rattle.net_branch.specs.Whole.{IsWholeNetwork}
use Rattle.net_branch.specs.declared.network.Network.{Network}
use Rattle.study_model.specs.declared.records.ScanItem.{ScanItem}
use Rattle.study_model.specs.declared.records.Tolerance.{Tolerance}
use Rattle.study_networks.specs.Networks.{network_at}
use Rattle.study_networks.specs.declared.networks.StudyNetworks.{StudyNetworks}
use Rattle.study_networks.specs.declared.networks.StudyNetworks.TheVariants.{Sequences, Phases}
use Rattle.tolerance_scan.specs.Widened.{widened_by}

-- the network that a scan looks at, of those that are built
abbrev pub network_in : StudyNetworks → ScanItem → Network
network_in (Sequences networks) scan = network_at scan.network networks
network_in (Phases network) scan = network

-- a whole network that is another one with every tolerance one way
pub record IsWide (upward : Bool) (ts : List Tolerance) (network wide : Network) : Type 0 where
  pub exact : exact_network wide ≡ widened_by upward ts (exact_network network)
  pub whole : IsWholeNetwork wide

-- so it is of what each scan looks at
abbrev pub AreWide : Bool → List Tolerance → StudyNetworks → StudyNetworks → Type 0
AreWide upward ts networks wide = (scan : ScanItem) → IsWide upward ts (network_in networks scan) (network_in wide scan)
