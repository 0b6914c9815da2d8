-- What a report claims of a study for all values within its tolerances.
use Rattle.std.specs.Prelude.{unsigned_abs}
use Rattle.std.specs.List.{AllByRecursion}
use Rattle.network_theory.specs.Between.{LiesBetween}
use Rattle.network_theory.specs.Network.{Network}
use Rattle.study_networks.specs.Scanned.{scanned_network, scanned_node}
use Rattle.study_networks.specs.Networks.{AreNetworksOf}
use Rattle.study_networks.specs.declared.networks.StudyNetworks.{StudyNetworks}
use Rattle.band_subdivision.specs.ScanSpec.{widths_of}
use Rattle.band_subdivision.specs.Split.{ComesFrom}
use Rattle.study_model.specs.Lawful.{IsLawful}
use Rattle.study_model.specs.declared.records.ScanItem.{ScanItem}
use Rattle.study_model.specs.declared.records.Study.{Study}
use Rattle.study_scans.specs.Claim.{looked_over, HoldsOfBoxes}
use Rattle.study_scans.specs.Scan.{spec_of, boxes_by}
use Rattle.tolerance_scan.specs.Report.{lowered, raised, tolerance_test}

-- what the boxes of a scan say holds of a network
abbrev pub HoldsOfNetwork : Study → ScanItem → Network → Type 0
HoldsOfNetwork study scan network =
    HoldsOfBoxes (looked_over (spec_of study scan) network (scanned_node scan)) (tolerance_test study scan) (spec_of study scan) (boxes_by (tolerance_test study scan) (spec_of study scan))

-- it holds of each network within the tolerances, of which the written one is one; each band that was split on the way to a box failed the test
pub record HoldsWithin (study : Study) (scan : ScanItem) : Type 0 where
  pub written : LiesBetween (scanned_network study scan) (lowered study scan) (raised study scan)
  pub boxes : (network : Network) → LiesBetween network (lowered study scan) (raised study scan) → HoldsOfNetwork study scan network
  pub split_boxes : AllByRecursion (ComesFrom (tolerance_test study scan) (widths_of (spec_of study scan)) (unsigned_abs scan.from) (unsigned_abs scan.to)) (boxes_by (tolerance_test study scan) (spec_of study scan))

-- the same of each scan of a study
abbrev pub HoldsOfTolerances : Study → Type 0
HoldsOfTolerances study = AllByRecursion (HoldsWithin study) study.scans

-- so it is of each lawful study whose networks there are
abbrev pub TolerancesHold : Type 0
TolerancesHold = (study : Study) (networks : StudyNetworks) → IsLawful study → AreNetworksOf study networks → HoldsOfTolerances study
