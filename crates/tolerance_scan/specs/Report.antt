-- The test of the boxes of a study's scans that holds for all values within the study's tolerances.
use Rattle.std.specs.Prelude.{true, false}
use Rattle.network_theory.specs.Network.{Network}
use Rattle.study_networks.specs.Scanned.{scanned_network, scanned_node}
use Rattle.band_subdivision.specs.Boxes.{BoxTest}
use Rattle.study_model.specs.declared.records.ScanItem.{ScanItem}
use Rattle.study_model.specs.declared.records.Study.{Study}
use Rattle.study_scans.specs.Scan.{spec_of, test_over}
use Rattle.tolerance_scan.specs.Widened.{widened_by}

-- the network that a scan looks at, with every tolerance lower and with every one higher
unfoldable pub lowered : Study → ScanItem → Network
lowered study scan = widened_by false study.tolerances (scanned_network study scan)

unfoldable pub raised : Study → ScanItem → Network
raised study scan = widened_by true study.tolerances (scanned_network study scan)

-- the test of the boxes of a scan, for all networks from one to the other, at the node that it looks at
unfoldable pub tolerance_test : Study → ScanItem → BoxTest
tolerance_test study scan = test_over study.scale (spec_of study scan) (lowered study scan) (raised study scan) (scanned_node scan)
