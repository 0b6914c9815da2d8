-- The boxes of a scan.
use Rattle.std.specs.Prelude.{ℕ, unsigned_abs, if◌then◌else◌, List}
use Rattle.network_theory.specs.Network.{Network}
use Rattle.network_theory.specs.Reach.{is_live}
use Rattle.admittance_box.specs.Places.{node_ordering}
use Rattle.study_model.specs.Voltages.{kv_of}
use Rattle.study_networks.specs.Scanned.{scanned_network, scanned_node}
use Rattle.band_subdivision.specs.Boxes.{BoxTest, boxes_of}
use Rattle.band_subdivision.specs.PairTest.{pair_test}
use Rattle.band_subdivision.specs.Parts.{nowhere}
use Rattle.band_subdivision.specs.ScanSpec.{asked_of, widths_of, nothing}
use Rattle.band_subdivision.specs.declared.scan_spec.ScanSpec.{ScanSpec}
use Rattle.scan_report.specs.declared.boxes.BoxRow.{BoxRow}
use Rattle.study_model.specs.declared.records.ScanItem.{ScanItem}
use Rattle.study_model.specs.declared.records.Study.{Study}

-- what a scan of a study is asked
abbrev pub spec_of : Study → ScanItem → ScanSpec
spec_of study scan = record {
  from = unsigned_abs scan.from;
  to = unsigned_abs scan.to;
  finest = unsigned_abs scan.finest;
  locate = unsigned_abs scan.locate;
  curve = scan.curve;
  kv = kv_of study.buses scan.bus;
  mva = study.mva;
  method = study.method;
}

-- the live nodes of a network, inner ones before those of buses, and the scanned one last
abbrev pub ordering_of : Network → ℕ → List ℕ
ordering_of network driven = node_ordering network (is_live network) driven

-- the interval test of the networks from one to another, at a live node of theirs
abbrev pub live_test : ℕ → ScanSpec → Network → Network → ℕ → BoxTest
live_test scale spec low high driven = pair_test scale (asked_of spec) low high (ordering_of low driven) nothing

-- and at any node of theirs: where it isn't live the test passes nowhere
abbrev pub test_over : ℕ → ScanSpec → Network → Network → ℕ → BoxTest
test_over scale spec low high node = if is_live low node then live_test scale spec low high node else nowhere

-- the test of the boxes of a scan of a study, at the node that it looks at
unfoldable pub test_of : Study → ScanItem → BoxTest
test_of study scan = test_over study.scale (spec_of study scan) (scanned_network study scan) (scanned_network study scan) (scanned_node scan)

-- the boxes of the band of what is asked, by a test
abbrev pub boxes_by : BoxTest → ScanSpec → List BoxRow
boxes_by test spec = boxes_of test (widths_of spec) spec.from spec.to

-- the boxes of a scan, where each scan has a test of its boxes
unfoldable pub boxes_for : (ScanItem → BoxTest) → Study → ScanItem → List BoxRow
boxes_for tests study scan = boxes_by (tests scan) (spec_of study scan)

-- the boxes of a scan
abbrev pub boxes_in : Study → ScanItem → List BoxRow
boxes_in study = boxes_for (test_of study) study
