-- The first fault of a report, if it has one.
use Rattle.std.specs.Prelude.{◌≡◌, ℕ, ◌-◌, ◌^◌, min, drop, Bool, true, false, if◌then◌else◌, List, [], ◌∷◌, count_by, Option, Some, None, Result, Ok, Err, unsigned_abs}
use Rattle.scan_report.specs.declared.rows.Row.{Row}
use Rattle.scan_report.specs.declared.rows.Row.TheVariants as row
use Rattle.study_model.specs.declared.records.ScanItem.{ScanItem}
use Rattle.study_model.specs.declared.records.Study.{Study}
use Rattle.study_scans.specs.Fold.{found_too, nothing_found, status_of}
use Rattle.study_scans.specs.Report.{head_row}
use Rattle.study_scans.specs.declared.counts.Found.{Found}
use Rattle.report_verify.specs.Told.{told_at, next_line}
use Rattle.report_verify.specs.Checks.{is_line, checking_of, Ending, scan_check}
use Rattle.report_verify.specs.declared.fault.VerifyFault.{VerifyFault}
use Rattle.report_verify.specs.declared.scans.Ended.{Ended}
use Rattle.report_verify.specs.declared.fault.VerifyFault.TheVariants.{WrongScan, WrongCount}

abbrev pub is_scan_row : Row → Bool
is_scan_row (row.Scan name bus network from to threshold method) = true
is_scan_row _ = false

abbrev pub is_box_row : Row → Bool
is_box_row (row.BoxLine number lo hi word at micro_ohms) = true
is_box_row _ = false

-- how many rows are of a kind, in 32 bits
abbrev pub counted_by : (Row → Bool) → List Row → ℕ
counted_by is rows = min (count_by is rows) (2 ^ 32 - 1)

-- a report's last row, after all scans: it is no scan's, and has the status of what was found
abbrev pub last_check : Found → ℕ → Row → Option VerifyFault
last_check found line last = if is_scan_row last then Some (WrongScan line) else (if is_line last (row.End (status_of found)) then None else Some (WrongCount line))

abbrev pub after_scan : Result Ending VerifyFault → (Ending → Option VerifyFault) → Option VerifyFault
after_scan (Err fault) go_on = Some fault
after_scan (Ok ending) go_on = go_on ending

-- the scans of a study in order, each with its first row and its lines; then the last row
abbrev pub report_check : Study → List ScanItem → Found → ℕ → List Row → Option VerifyFault
report_check study scans found line [] = Some (WrongScan line)
report_check study [] found line (row ∷ rows) = last_check found line row
report_check study (scan ∷ scans) found line (row ∷ rows) =
    if is_line row (head_row study scan)
    then after_scan (scan_check (checking_of study scan) (told_at (unsigned_abs scan.from)) (next_line line) rows) (λ ending. report_check study scans (found_too found ending.counts) ending.next ending.rest)
    else Some (WrongScan line)

-- the fault of the first line whose check fails, the lines being numbered from 1
unfoldable pub first_fault : Study → List Row → Option VerifyFault
first_fault study rows = report_check study study.scans nothing_found 1 rows

-- a scan whose first row and lines pass: what is left is judged from the row after them
abbrev pub HasPassed : Study → ScanItem → ℕ → List Row → Ended → Type 0
HasPassed study scan line rows ended =
    (scans : List ScanItem) (found : Found) → report_check study (scan ∷ scans) found line rows ≡ report_check study scans (found_too found ended.counts) ended.next (drop ended.lines rows)

-- one of which a check fails: that is the report's fault, whatever comes after it
abbrev pub HasFailed : Study → ScanItem → ℕ → List Row → VerifyFault → Type 0
HasFailed study scan line rows fault = (scans : List ScanItem) (found : Found) → report_check study (scan ∷ scans) found line rows ≡ Some fault
