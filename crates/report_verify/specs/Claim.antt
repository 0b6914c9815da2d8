-- What a report that has no fault claims of a study, wherever it comes from.
use Rattle.std.specs.Prelude.{ℕ, ℤ, List, [], ◌∷◌, Option, Some, None}
use Rattle.scan_report.specs.declared.boxes.BoxRow.{BoxRow}
use Rattle.scan_report.specs.declared.boxes.Kind.{Kind}
use Rattle.scan_report.specs.declared.rows.Row.{Row}
use Rattle.scan_report.specs.declared.rows.Row.TheVariants as row
use Rattle.study_model.specs.declared.records.ScanItem.{ScanItem}
use Rattle.study_model.specs.declared.records.Study.{Study}
use Rattle.study_scans.specs.Claim.{looked_at, HoldsOfBoxes}
use Rattle.study_scans.specs.Scan.{spec_of, test_of}
use Rattle.report_verify.specs.Told.{kind_told}

-- a box before others; there are none where one of them has no kind
abbrev pub box_before : ℕ → ℕ → Option Kind → Option (List BoxRow) → Option (List BoxRow)
box_before lo hi (Some k) (Some boxes) = Some (record { lo = lo; hi = hi; kind = k } ∷ boxes)
box_before lo hi (Some k) None = None
box_before lo hi None boxes = None

-- the boxes that the lines up to a scan's last row tell; none where one of them is a peak without an order or a bound
abbrev pub boxes_told : List Row → Option (List BoxRow)
boxes_told [] = Some []
boxes_told (row.BoxLine number lo hi word at micro_ohms ∷ rows) = box_before lo hi (kind_told word at micro_ohms) (boxes_told rows)
boxes_told (row.Summary name boxes cleared peaks undecided regions ∷ rows) = Some []
boxes_told (_ ∷ rows) = boxes_told rows

-- the boxes of each scan of a report
abbrev pub scans_told : List Row → List (Option (List BoxRow))
scans_told [] = []
scans_told (row.Scan name bus network from to threshold method ∷ rows) = boxes_told rows ∷ scans_told rows
scans_told (_ ∷ rows) = scans_told rows

-- the boxes that are told of a scan cover its band without a gap, and each is true of the driving-point impedance at the node that it looks at
abbrev pub HoldsAsTold : Study → ScanItem → Option (List BoxRow) → Type 0
HoldsAsTold study scan (Some boxes) = HoldsOfBoxes (looked_at study scan) (test_of study scan) (spec_of study scan) boxes
HoldsAsTold study scan None = ⊥

-- so of each scan in order, and there are the boxes of no other
abbrev pub HoldsOfEach : Study → List ScanItem → List (Option (List BoxRow)) → Type 0
HoldsOfEach study [] [] = Unit {0}
HoldsOfEach study [] (told ∷ more) = ⊥
HoldsOfEach study (scan ∷ scans) [] = ⊥
HoldsOfEach study (scan ∷ scans) (told ∷ more) = HoldsAsTold study scan told × HoldsOfEach study scans more

-- what a report claims of the scans of a study
unfoldable pub HoldsOfReport : Study → List Row → Type 0
HoldsOfReport study rows = HoldsOfEach study study.scans (scans_told rows)
