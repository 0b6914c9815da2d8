-- The texts of the parts of a report, which stay closed where they are put together.
use Rattle.std.specs.Prelude.{ℕ, ◌+◌, ℤ, List, [], ◌∷◌, ◌++◌, length, Option}
use Rattle.scan_report.specs.Rows.{row_text}
use Rattle.scan_report.specs.declared.rows.Row.TheVariants.{Drill, Tolerance, End}
use Rattle.scan_report.specs.declared.boxes.BoxRow.{BoxRow}
use Rattle.study_model.specs.declared.records.ScanItem.{ScanItem}
use Rattle.study_model.specs.declared.records.Study.{Study}
use Rattle.scan_report.specs.declared.boxes.Kind.{Kind}
use Rattle.study_scans.specs.declared.counts.Tally.{Tally}
use Rattle.study_scans.specs.declared.region.Region.{Region}
use Rattle.scan_report.specs.Reading.{text_of}
use Rattle.study_scans.specs.Report.{row_of, head_row}
use Rattle.study_scans.specs.Fold.{open_rows, ended_rows, folded_rows, folded_summary, tallied, no_tally, counted_status}
use Rattle.study_scans.specs.declared.plan.PlannedScan.{PlannedScan}
use Rattle.harmscan_core.specs.Plans.{plan_status}

-- a scan's first row
unfoldable pub head_text : Study → ScanItem → List ℕ
head_text study scan = row_text (head_row study scan)

-- the row of the run that is open, where there is one
unfoldable pub open_text : ℤ → ℕ → Option Region → List ℕ
open_text hz regions run = text_of (open_rows hz regions run)

-- the row of the region that a box ends
unfoldable pub ended_text : ℤ → ℕ → Option Region → Kind → List ℕ
ended_text hz regions run kind = text_of (ended_rows hz regions run kind)

-- what one box adds: the row of the region that it ends, and its own
unfoldable pub step_text : ℤ → Tally → BoxRow → List ℕ
step_text hz t b = ended_text hz t.regions t.run b.kind ++ row_text (row_of (t.counts.boxes + 1) b.lo b.hi b.kind)

-- the rows of boxes and of their regions
unfoldable pub boxes_text : ℤ → Tally → List BoxRow → List ℕ
boxes_text hz t boxes = text_of (folded_rows hz t boxes)

-- a scan's last row
unfoldable pub summary_text : ScanItem → Tally → List ℕ
summary_text scan tally = row_text (folded_summary scan tally)

-- the last row of a report
unfoldable pub end_text : ℕ → List ℕ
end_text status = row_text (End status)

-- the rows of boxes and regions and a scan's last row
unfoldable pub body_text : ℤ → ScanItem → List BoxRow → List ℕ
body_text hz scan boxes = boxes_text hz no_tally boxes ++ summary_text scan (tallied no_tally boxes)

-- all rows of a scan that has these boxes
unfoldable pub scan_text : Study → ScanItem → List BoxRow → List ℕ
scan_text study scan boxes = head_text study scan ++ body_text study.hz scan boxes

-- all rows of planned scans in order
abbrev pub plan_text : {E : Type 0} → Study → List (PlannedScan E) → List ℕ
plan_text study [] = []
plan_text study (planned ∷ plan) = scan_text study planned.scan planned.walk.left ++ plan_text study plan

-- all rows of a plan, and the last row of a report
unfoldable pub whole_text : {E : Type 0} → Study → List (PlannedScan E) → List ℕ
whole_text study plan = plan_text study plan ++ end_text (plan_status plan)

-- the first row of a report within tolerances
unfoldable pub entries_text : ℕ → List ℕ
entries_text entries = row_text (Tolerance entries)

-- all rows of such a report
unfoldable pub tolerant_text : {E : Type 0} → Study → List (PlannedScan E) → List ℕ
tolerant_text study plan = entries_text (length study.tolerances) ++ whole_text study plan

-- the first row of a drill
unfoldable pub drill_head_text : ℕ → ℕ → List ℕ
drill_head_text number nodes = row_text (Drill number nodes)

-- a scan's last row, and the last row of a report of this scan alone
unfoldable pub counts_text : ScanItem → List BoxRow → List ℕ
counts_text scan boxes = summary_text scan (tallied no_tally boxes) ++ end_text (counted_status boxes)

-- all rows of a drill
unfoldable pub counted_text : ℕ → ℕ → ScanItem → List BoxRow → List ℕ
counted_text number nodes scan boxes = drill_head_text number nodes ++ counts_text scan boxes
