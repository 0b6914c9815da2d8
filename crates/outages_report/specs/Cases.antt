-- Cases: a scan in the network without one element.
use Rattle.std.specs.Prelude.{ℕ, Bool, true, false, nat_lt, not, if◌then◌else◌, List, [], map, length}
use Rattle.network_theory.specs.Network.{Network}
use Rattle.band_subdivision.specs.Boxes.{BoxTest}
use Rattle.scan_report.specs.declared.boxes.BoxRow.{BoxRow}
use Rattle.scan_report.specs.declared.rows.Row.{Row}
use Rattle.scan_report.specs.declared.rows.Row.TheVariants as row
use Rattle.study_model.specs.declared.records.ScanItem.{ScanItem}
use Rattle.study_model.specs.declared.records.Study.{Study}
use Rattle.study_networks.specs.Scanned.{scanned_network, scanned_node}
use Rattle.study_scans.specs.Regions.{is_cleared, is_peak, is_undecided, count_of, summit_of, order_of_summit, ohms_of_summit}
use Rattle.study_scans.specs.Scan.{spec_of, test_over, boxes_by}
use Rattle.study_variants.specs.Outages.{without}
use Rattle.outages_report.specs.declared.case.Case.{Case}
use Rattle.outages_report.specs.Floating.{floats}

-- the network of a scan, without the element of a number
abbrev pub case_network : Study → ℕ → ScanItem → Network
case_network study number scan = without number (scanned_network study scan)

-- the test of its boxes, and its boxes
unfoldable pub case_test : Study → ℕ → ScanItem → BoxTest
case_test study number scan = test_over study.scale (spec_of study scan) (case_network study number scan) (case_network study number scan) (scanned_node scan)

unfoldable pub case_boxes : Study → ℕ → ScanItem → List BoxRow
case_boxes study number scan = boxes_by (case_test study number scan) (spec_of study scan)

-- the case of a scan of this name that has these boxes
abbrev pub case_over : List ℕ → List BoxRow → Case
case_over name boxes = record {
  name = name;
  counts = record { boxes = length boxes; cleared = count_of is_cleared boxes; peaks = count_of is_peak boxes; undecided = count_of is_undecided boxes };
  summit = summit_of boxes;
}

-- the case of a scan of a study
abbrev pub case_of : Study → ℕ → ScanItem → Case
case_of study number scan = case_over scan.name (case_boxes study number scan)

-- a peak case has a peak; another is undecided where some box is, else cleared
abbrev pub is_peak_case : Case → Bool
is_peak_case case = nat_lt 0 case.counts.peaks

abbrev pub is_undecided_case : Case → Bool
is_undecided_case case = if is_peak_case case then false else nat_lt 0 case.counts.undecided

abbrev pub is_cleared_case : Case → Bool
is_cleared_case case = if is_peak_case case then false else not (nat_lt 0 case.counts.undecided)

-- an outage that floats has no case, another one for each scan
abbrev pub cases_where : Bool → Study → ℕ → List ScanItem → List Case
cases_where true study number scans = []
cases_where false study number scans = map (case_of study number) scans

abbrev pub cases_of : Study → ℕ → List Case
cases_of study number = cases_where (floats study number) study number study.scans

-- the row of a case of the outage of a number
abbrev pub case_row : ℕ → Case → Row
case_row number case =
    row.Case number case.name case.counts.boxes case.counts.cleared case.counts.peaks case.counts.undecided (order_of_summit case.summit) (ohms_of_summit case.summit)
