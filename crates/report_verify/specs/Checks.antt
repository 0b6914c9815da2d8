-- The check of each line of a scan, by what the lines before it tell.
use Rattle.std.specs.Prelude.{◌≡◌, ℕ, ◌+◌, ℤ, ◌≤◌, Bool, true, false, ◌&&◌, ◌==◌, nat_lt, nat_le, int_le, if◌then◌else◌, List, [], ◌∷◌, Option, Some, None, is_some, Result, Ok, Err}
use Rattle.std.specs.Cmp.Lexicographic.{pointwise}
use Rattle.scan_report.specs.Rows.{row_text}
use Rattle.scan_report.specs.declared.boxes.BoxRow.{BoxRow}
use Rattle.scan_report.specs.declared.boxes.Kind.{Kind}
use Rattle.scan_report.specs.declared.boxes.Kind.TheVariants as kind
use Rattle.scan_report.specs.declared.rows.Row.{Row}
use Rattle.scan_report.specs.declared.rows.Row.TheVariants as row
use Rattle.study_model.specs.Range.{IsIn}
use Rattle.study_model.specs.declared.range.TheConstants.Range.{HERTZ}
use Rattle.study_model.specs.declared.records.ScanItem.{ScanItem}
use Rattle.study_model.specs.declared.records.Study.{Study}
use Rattle.band_subdivision.specs.Boxes.{BoxTest, Widths, kind_of, above_at}
use Rattle.band_subdivision.specs.Scan.{test_of as walk_test}
use Rattle.band_subdivision.specs.ScanSpec.{IsScanSpec, widths_of}
use Rattle.band_subdivision.specs.declared.scan_spec.ScanSpec.{ScanSpec}
use Rattle.study_scans.specs.Fold.{folded_summary}
use Rattle.study_scans.specs.Regions.{is_undecided, row_of_region}
use Rattle.study_scans.specs.Scan.{spec_of, test_of}
use Rattle.study_scans.specs.declared.counts.Counts.{Counts}
use Rattle.study_scans.specs.declared.region.Region.{Region}
use Rattle.report_verify.specs.Told.{kind_told, may_follow, with_box, with_region, next_line}
use Rattle.report_verify.specs.declared.checker.Checker.{Checker}
use Rattle.report_verify.specs.declared.fault.VerifyFault.{VerifyFault}
use Rattle.report_verify.specs.declared.fault.VerifyFault.TheVariants.{Gap, NotCleared, NotPeak, NotUndecided, WrongCount}
use Rattle.report_verify.specs.declared.told.BoxLine.{BoxLine}
use Rattle.report_verify.specs.declared.told.Told.{Told}

-- what the lines of a scan are checked by: the frequency of order 1, the scan, what it is asked, and its test of boxes
pub record Checking : Type 0 where
  pub hz : ℤ
  pub scan : ScanItem
  pub spec : ScanSpec
  pub test : BoxTest

abbrev pub checking_of : Study → ScanItem → Checking
checking_of study scan = record { hz = study.hz; scan = scan; spec = spec_of study scan; test = test_of study scan }

-- ---- one box
-- undecided, as the bisection would settle the box
abbrev pub settles_undecided : Option Kind → Bool
settles_undecided (Some k) = is_undecided k
settles_undecided None = false

-- there is a certified bound, and it is at least the other
abbrev pub is_at_least : Option ℤ → ℤ → Bool
is_at_least None micro_ohms = false
is_at_least (Some certified) micro_ohms = int_le micro_ohms certified

-- the order lies in the box, and there the test finds the impedance above, with at least the bound
abbrev pub is_peak_by : BoxTest → ℕ → ℕ → ℕ → ℤ → Bool
is_peak_by test lo hi at micro_ohms = nat_le lo at && nat_le at hi && is_at_least (above_at test at) micro_ohms

-- a fault, where a test fails
abbrev pub unless : Bool → VerifyFault → Option VerifyFault
unless true fault = None
unless false fault = Some fault

-- the fault of what a line tells of its box, if it has one
abbrev pub kind_fault : BoxTest → Widths → ℕ → ℕ → ℕ → Kind → Option VerifyFault
kind_fault test widths line lo hi kind.Cleared = unless (test.clear lo hi) (NotCleared line)
kind_fault test widths line lo hi (kind.Peak at micro_ohms) = unless (is_peak_by test lo hi at micro_ohms) (NotPeak line)
kind_fault test widths line lo hi kind.Undecided = unless (settles_undecided (kind_of test widths lo hi)) (NotUndecided line)

-- ---- one line
-- two rows with the same line
abbrev pub is_line : Row → Row → Bool
is_line row wanted = pointwise ◌==◌ (row_text row) (row_text wanted)

-- a box begins where the one before ended, isn't empty, and ends in the band
abbrev pub goes_on : ℕ → ℕ → BoxLine → Bool
goes_on reached to b = (b.lo == reached) && nat_lt b.lo b.hi && nat_le b.hi to

-- its number is the next one, and it may stand there
abbrev pub count_check : Told → ℕ → ℕ → BoxRow → Result Told VerifyFault
count_check told line number b = if (number == (told.tally.counts.boxes + 1)) && may_follow told b.kind then Ok (with_box told b) else Err (WrongCount line)

abbrev pub unless_fault : Option VerifyFault → Result Told VerifyFault → Result Told VerifyFault
unless_fault (Some fault) other = Err fault
unless_fault None other = other

abbrev pub kind_check : Checking → Told → ℕ → BoxLine → Option Kind → Result Told VerifyFault
kind_check c told line b (Some k) =
    unless_fault (kind_fault c.test (widths_of c.spec) line b.lo b.hi k) (count_check told line b.number (record { lo = b.lo; hi = b.hi; kind = k }))
kind_check c told line b None = Err (NotPeak line)

-- the line of a box: its place in the band, then its kind, then its number and what it follows
abbrev pub box_check : Checking → Told → ℕ → BoxLine → Result Told VerifyFault
box_check c told line b = if goes_on told.reached c.spec.to b then kind_check c told line b b.kind else Err (Gap line)

-- the line of a region: it stands right after a run of boxes of which none is cleared, and is their region's
abbrev pub run_check : ℤ → Option Region → Told → ℕ → Row → Result Told VerifyFault
run_check hz (Some run) told line row = if is_line row (row_of_region hz (told.tally.regions + 1) run) then Ok (with_region told) else Err (WrongCount line)
run_check hz None told line row = Err (WrongCount line)

abbrev pub region_check : ℤ → Told → ℕ → Row → Result Told VerifyFault
region_check hz told line row = run_check hz told.tally.run told line row

-- a scan's last line: its boxes reach the end of the band, each run has had the row of its region, and the counts are right
abbrev pub summary_check : ScanItem → ℕ → Told → ℕ → Row → Result (Unit {0}) VerifyFault
summary_check scan to told line row =
    if told.reached == to then (if is_some told.tally.run then Err (WrongCount line) else (if is_line row (folded_summary scan told.tally) then Ok tt else Err (WrongCount line)))
    else Err (Gap line)

-- ---- the lines of a scan
abbrev pub going_on : Result Told VerifyFault → Result (Option Told) VerifyFault
going_on (Ok told) = Ok (Some told)
going_on (Err fault) = Err fault

abbrev pub ending : Result (Unit {0}) VerifyFault → Result (Option Told) VerifyFault
ending (Ok done) = Ok None
ending (Err fault) = Err fault

-- a line of a scan: what is told after it, or nothing where the scan ends with it; no other row may stand there
abbrev pub line_check : Checking → Told → ℕ → Row → Result (Option Told) VerifyFault
line_check c told line (row.BoxLine number lo hi word at micro_ohms) = going_on (box_check c told line (record { number = number; lo = lo; hi = hi; kind = kind_told word at micro_ohms }))
line_check c told line (row.Region number lo hi hertz_lo hertz_hi peaks undecided at micro_ohms) =
    going_on (region_check c.hz told line (row.Region number lo hi hertz_lo hertz_hi peaks undecided at micro_ohms))
line_check c told line (row.Summary name boxes cleared peaks undecided regions) = ending (summary_check c.scan c.spec.to told line (row.Summary name boxes cleared peaks undecided regions))
line_check c told line _ = Err (WrongCount line)

-- how a scan's lines end: their counts, the number of the line after them, and the rows from there on
pub record Ending : Type 0 where
  pub counts : Counts
  pub next : ℕ
  pub rest : List Row

abbrev pub and_then : Result (Option Told) VerifyFault → (Told → Result Ending VerifyFault) → Ending → Result Ending VerifyFault
and_then (Err fault) go_on done = Err fault
and_then (Ok None) go_on done = Ok done
and_then (Ok (Some told)) go_on done = go_on told

-- the lines of a scan from its second on, each by its own check, up to its last
abbrev pub scan_check : Checking → Told → ℕ → List Row → Result Ending VerifyFault
scan_check c told line [] = Err (WrongCount line)
scan_check c told line (row ∷ rows) =
    and_then (line_check c told line row) (λ next. scan_check c next (next_line line) rows) (record { counts = told.tally.counts; next = next_line line; rest = rows })

-- ---- what the program checks by
abbrev pub checking_in : {E : Type 0} → ℕ → Checker E → Checking
checking_in scale c = record { hz = c.hz; scan = c.scan; spec = c.spec; test = walk_test scale c.walk }

-- a walk is asked what its lines are checked by
pub record IsChecker {E : Type 0} (c : Checker E) : Type 0 where
  pub hz : IsIn HERTZ c.hz
  pub spec : IsScanSpec c.spec
  pub asked : c.walk.spec ≡ c.spec

-- a box in the band of a walk
pub record IsInBand {E : Type 0} (c : Checker E) (lo hi : ℕ) : Type 0 where
  pub spec : IsScanSpec c.spec
  pub asked : c.walk.spec ≡ c.spec
  pub from : c.spec.from ≤ lo
  pub ordered : lo ≤ hi
  pub to : hi ≤ c.spec.to
