-- What a report claims of a study.
use Rattle.std.specs.Prelude.{ℕ, unsigned_abs, List, map}
use Rattle.std.specs.List.{AllByRecursion}
use Rattle.network_theory.specs.Between.{IsPair, LiesBetween}
use Rattle.network_theory.specs.Box.{Covers}
use Rattle.network_theory.specs.Network.{Network, IsWhole}
use Rattle.study_networks.specs.Scanned.{scanned_network, scanned_node}
use Rattle.band_subdivision.specs.Boxes.{BoxTest}
use Rattle.band_subdivision.specs.Cover.{span_of}
use Rattle.band_subdivision.specs.ScanSpec.{IsScanSpec, threshold_of, widths_of}
use Rattle.band_subdivision.specs.Split.{ComesFrom}
use Rattle.band_subdivision.specs.Truth.{Scanned, scanned_by, IsSound, IsTrueRow}
use Rattle.band_subdivision.specs.declared.scan_spec.ScanSpec.{ScanSpec}
use Rattle.scan_report.specs.declared.boxes.BoxRow.{BoxRow}
use Rattle.study_model.specs.declared.records.ScanItem.{ScanItem}
use Rattle.study_model.specs.declared.records.Study.{Study}
use Rattle.study_scans.specs.Scan.{spec_of, test_over, test_of, boxes_by, boxes_in}

-- a node of a network, with the threshold and the base values of what is asked
abbrev pub looked_over : ScanSpec → Network → ℕ → Scanned
looked_over spec network node = scanned_by (threshold_of spec) spec.kv spec.mva network node

-- what a scan looks at: the node of the bus that it names, in the network that it names, with its threshold
abbrev pub looked_at : Study → ScanItem → Scanned
looked_at study scan = looked_over (spec_of study scan) (scanned_network study scan) (scanned_node scan)

-- boxes cover the band of what is asked without a gap, and each is true of the driving-point impedance at the node that is looked at
pub record HoldsOfBoxes (seen : Scanned) (test : BoxTest) (spec : ScanSpec) (boxes : List BoxRow) : Type 0 where
  pub covers : Covers spec.from spec.to (map span_of boxes)
  pub true_boxes : AllByRecursion (IsTrueRow seen test (widths_of spec)) boxes

-- what the boxes of a scan say holds, and each band that was split on the way to one failed the test
pub record HoldsOfScan (study : Study) (scan : ScanItem) : Type 0 where
  pub boxes : HoldsOfBoxes (looked_at study scan) (test_of study scan) (spec_of study scan) (boxes_in study scan)
  pub split_boxes : AllByRecursion (ComesFrom (test_of study scan) (widths_of (spec_of study scan)) (unsigned_abs scan.from) (unsigned_abs scan.to)) (boxes_in study scan)

-- the same of each scan of a study
abbrev pub HoldsOfStudy : Study → Type 0
HoldsOfStudy study = AllByRecursion (HoldsOfScan study) study.scans

-- ---- laws
-- what the test of the networks from one to another says of a box is true of each network between them
abbrev pub TestsAreSound : Type 0
TestsAreSound =
    (scale : ℕ) (spec : ScanSpec) (low high : Network) (node : ℕ) (network : Network) → IsScanSpec spec → IsWhole low → IsPair low high → LiesBetween network low high
    → IsSound spec.from (looked_over spec network node) (test_over scale spec low high node)

-- by a sound test what each box of a band says holds
abbrev pub BoxesHold : Type 0
BoxesHold = (seen : Scanned) (test : BoxTest) (spec : ScanSpec) → IsScanSpec spec → IsSound spec.from seen test → HoldsOfBoxes seen test spec (boxes_by test spec)
