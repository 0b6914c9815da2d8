-- The rows, the text and the status of a study's report.
use Rattle.std.specs.Prelude.{ℕ, ℤ, ◌+◌, slice_get, unsigned_abs, Bool, if◌then◌else◌, List, [], ◌∷◌, ◌++◌, length, count_by, Option, Some, None}
use Rattle.std.specs.List.{list_any}
use Rattle.band_subdivision.specs.Boxes.{BoxTest}
use Rattle.scan_report.specs.Reading.{text_of}
use Rattle.scan_report.specs.declared.boxes.Kind.{Kind}
use Rattle.scan_report.specs.declared.boxes.Kind.TheVariants.{Cleared, Peak, Undecided}
use Rattle.scan_report.specs.declared.boxes.BoxRow.{BoxRow}
use Rattle.scan_report.specs.declared.rows.Row.{Row}
use Rattle.scan_report.specs.declared.rows.Row.TheVariants as row
use Rattle.scan_report.specs.declared.rows.BoxWord.TheVariants as word
use Rattle.scan_report.specs.declared.rows.NetWord.{NetWord}
use Rattle.scan_report.specs.declared.rows.NetWord.TheVariants as net
use Rattle.study_model.specs.declared.words.Phase.{Phase}
use Rattle.study_model.specs.declared.words.Phase.TheVariants as phase
use Rattle.study_model.specs.declared.words.Sequence.{Sequence}
use Rattle.study_model.specs.declared.words.Sequence.TheVariants as sequence
use Rattle.study_model.specs.declared.records.Bus.{Bus}
use Rattle.study_model.specs.declared.records.ScanItem.{ScanItem}
use Rattle.study_model.specs.declared.records.Study.{Study}
use Rattle.study_scans.specs.Regions.{is_cleared, is_peak, is_undecided, count_of, Part, cleared, region, parts_of, is_region, region_of, row_of_region}
use Rattle.study_scans.specs.Scan.{test_of, boxes_for}

-- the row of a box
abbrev pub row_of : ℕ → ℕ → ℕ → Kind → Row
row_of number lo hi Cleared = row.BoxLine number lo hi word.Cleared None None
row_of number lo hi (Peak at ohms) = row.BoxLine number lo hi word.Peak (Some at) (Some ohms)
row_of number lo hi Undecided = row.BoxLine number lo hi word.Undecided None None

-- the rows of boxes, numbered from here
abbrev pub box_rows : ℕ → List BoxRow → List Row
box_rows number [] = []
box_rows number (b ∷ bs) = row_of number b.lo b.hi b.kind ∷ box_rows (number + 1) bs

-- the rows of parts, their boxes and regions numbered from here: a region's row is right after its last box
abbrev pub rows_of_parts : ℤ → ℕ → ℕ → List Part → List Row
rows_of_parts hz number regions [] = []
rows_of_parts hz number regions (cleared b ∷ parts) = row_of number b.lo b.hi b.kind ∷ rows_of_parts hz (number + 1) regions parts
rows_of_parts hz number regions (region first more ∷ parts) =
    box_rows number (first ∷ more) ++ row_of_region hz regions (region_of first more) ∷ rows_of_parts hz (number + length (first ∷ more)) (regions + 1) parts

-- the name of a bus, or no bytes where there is none
abbrev pub name_in : Option Bus → List ℕ
name_in (Some bus) = bus.name
name_in None = []

-- the name of the bus of a number, from 0
abbrev pub bus_name : List Bus → ℕ → List ℕ
bus_name buses number = name_in (slice_get buses number)

-- the word of what a scan looks at: its phase, or the sequence of its network
abbrev pub net_of : Sequence → Option Phase → NetWord
net_of sequence.Positive None = net.Positive
net_of sequence.Zero None = net.Zero
net_of network (Some phase.A) = net.A
net_of network (Some phase.B) = net.B
net_of network (Some phase.C) = net.C

-- a scan's first row
abbrev pub head_row : Study → ScanItem → Row
head_row study scan = row.Scan scan.name (bus_name study.buses scan.bus) (net_of scan.network scan.phase) (unsigned_abs scan.from) (unsigned_abs scan.to) scan.threshold study.method

-- a scan's last row: its boxes, of each kind, and its regions
abbrev pub summary_of : ScanItem → List BoxRow → Row
summary_of scan boxes =
    row.Summary scan.name (length boxes) (count_of is_cleared boxes) (count_of is_peak boxes) (count_of is_undecided boxes) (count_by is_region (parts_of boxes))

-- the rows of a scan that has these boxes: the first, those of its boxes and regions, the last
abbrev pub rows_over : Study → ScanItem → List BoxRow → List Row
rows_over study scan boxes = head_row study scan ∷ (rows_of_parts study.hz 1 1 (parts_of boxes) ++ summary_of scan boxes ∷ [])

-- a scan's rows, where each scan has a test of its boxes
unfoldable pub scan_rows : (ScanItem → BoxTest) → Study → ScanItem → List Row
scan_rows tests study scan = rows_over study scan (boxes_for tests study scan)

-- whether some box of some scan is of a kind
abbrev pub some_box : (Kind → Bool) → (ScanItem → BoxTest) → Study → Bool
some_box of_kind tests study = list_any (λ scan. list_any (λ b. of_kind b.kind) (boxes_for tests study scan)) study.scans

-- 3 where some box is a peak, else 4 where one is undecided, else 0
unfoldable pub status_by : (ScanItem → BoxTest) → Study → ℕ
status_by tests study = if some_box is_peak tests study then 3 else (if some_box is_undecided tests study then 4 else 0)

-- the rows of scans in order
abbrev pub rows_of_scans : (ScanItem → BoxTest) → Study → List ScanItem → List Row
rows_of_scans tests study [] = []
rows_of_scans tests study (scan ∷ scans) = scan_rows tests study scan ++ rows_of_scans tests study scans

-- the rows of all scans in order, and the last row with the status
abbrev pub rows_by : (ScanItem → BoxTest) → Study → List Row
rows_by tests study = rows_of_scans tests study study.scans ++ row.End (status_by tests study) ∷ []

-- the status of a report
abbrev pub report_status : Study → ℕ
report_status study = status_by (test_of study) study

-- the rows of a report
abbrev pub report_rows : Study → List Row
report_rows study = rows_by (test_of study) study

-- the bytes of a report
unfoldable pub report_text : Study → List ℕ
report_text study = text_of (report_rows study)
