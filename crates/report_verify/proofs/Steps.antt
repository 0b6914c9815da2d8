-- The lines of a scan, one after another, and the scans of a report.
use Rattle.std.proofs.Common.{◌≡◌, ◌∙◌, ℕ, zero, suc, ◌+◌, ◌-◌, ◌<◌, ◌≤◌, Bool, true, false, List, [], ◌∷◌, drop, take, length, get_or, Option, Some, None, Result, Ok, Err, unsigned_abs, ap, sym, subst, refl, arith, drop-cons}
use Rattle.std.specs.Prelude.{if◌then◌else◌}
use Rattle.std.specs.List.{AllByRecursion}
use Rattle.std.proofs.lemmas.List.{drop_all, drop-drop}
use Rattle.std.proofs.Math.Seq.{take-length}
use Rattle.scan_report.specs.Reading.{IsRow, Stage, IsInOrder, no_row, one_more}
use Rattle.scan_report.specs.declared.rows.Row.{Row}
use Rattle.study_model.specs.declared.records.ScanItem.{ScanItem}
use Rattle.study_model.specs.declared.records.Study.{Study}
use Rattle.study_scans.specs.Fold.{found_too, nothing_found}
use Rattle.study_scans.specs.Report.{head_row}
use Rattle.study_scans.specs.declared.counts.Counts.{Counts}
use Rattle.study_scans.specs.declared.counts.Found.{Found}
use Rattle.report_verify.specs.Told.{told_at, next_line}
use Rattle.report_verify.specs.Checks.{is_line, Checking, checking_of, line_check, Ending, and_then, scan_check}
use Rattle.report_verify.specs.FirstFault.{last_check, after_scan, report_check, first_fault, HasPassed, HasFailed}
use Rattle.report_verify.specs.declared.scans.Ended.{Ended}
use Rattle.report_verify.specs.declared.fault.VerifyFault.{VerifyFault}
use Rattle.report_verify.specs.declared.fault.VerifyFault.TheVariants.{WrongScan, WrongCount}
use Rattle.report_verify.specs.declared.told.Told.{Told}

-- the item at a place, and those after it
front : {A : Type 0} (items : List A) (i : ℕ) (item : A) → i < length items → item ≡ get_or items i item → drop i items ≡ item ∷ drop (i + 1) items
front {A} items i item inside is =
    let next : suc i ≡ i + 1 = omega arith in
    drop-cons items i item inside ∙ ap (λ (x : A). x ∷ drop (suc i) items) (sym is) ∙ ap (λ (k : ℕ). item ∷ drop k items) next

-- ---- the lines of a scan
pub line_goes_on : (c : Checking) (told next : Told) (line : ℕ) (rows : List Row) (i : ℕ) (row : Row) → i < length rows → row ≡ get_or rows i row → line_check c told line row ≡ Ok (Some next)
    → scan_check c told line (drop i rows) ≡ scan_check c next (next_line line) (drop (i + 1) rows)
line_goes_on c told next line rows i row inside is e =
    ap (scan_check c told line) (front rows i row inside is)
    ∙ ap (λ (r : Result (Option Told) VerifyFault). and_then r (λ n. scan_check c n (next_line line) (drop (i + 1) rows)) (record { counts = told.tally.counts; next = next_line line; rest = drop (i + 1) rows })) e

pub line_ends : (c : Checking) (told : Told) (line : ℕ) (rows : List Row) (i : ℕ) (row : Row) → i < length rows → row ≡ get_or rows i row → line_check c told line row ≡ Ok None
    → scan_check c told line (drop i rows) ≡ Ok (record { counts = told.tally.counts; next = next_line line; rest = drop (i + 1) rows })
line_ends c told line rows i row inside is e =
    ap (scan_check c told line) (front rows i row inside is)
    ∙ ap (λ (r : Result (Option Told) VerifyFault). and_then r (λ n. scan_check c n (next_line line) (drop (i + 1) rows)) (record { counts = told.tally.counts; next = next_line line; rest = drop (i + 1) rows })) e

pub line_fails : (c : Checking) (told : Told) (line : ℕ) (rows : List Row) (i : ℕ) (row : Row) (fault : VerifyFault) → i < length rows → row ≡ get_or rows i row → line_check c told line row ≡ Err fault
    → scan_check c told line (drop i rows) ≡ Err fault
line_fails c told line rows i row fault inside is e =
    ap (scan_check c told line) (front rows i row inside is)
    ∙ ap (λ (r : Result (Option Told) VerifyFault). and_then r (λ n. scan_check c n (next_line line) (drop (i + 1) rows)) (record { counts = told.tally.counts; next = next_line line; rest = drop (i + 1) rows })) e

pub lines_stop : (c : Checking) (told : Told) (line : ℕ) (rows : List Row) (i : ℕ) → length rows ≤ i → scan_check c told line (drop i rows) ≡ Err (WrongCount line)
lines_stop c told line rows i past = ap (scan_check c told line) (drop_all i rows past)

-- ---- rows in their ranges
pub row_at : (rows : List Row) (i : ℕ) (row : Row) → AllByRecursion IsRow rows → i < length rows → row ≡ get_or rows i row → IsRow row
row_at [] i row all inside is = absurd (omega arith)
row_at (r ∷ rows) zero row all inside is = subst IsRow (sym is) all.0
row_at (r ∷ rows) (suc i) row all inside is = row_at rows i row all.1 (omega arith) is

pub rows_from : (rows : List Row) (i : ℕ) → AllByRecursion IsRow rows → AllByRecursion IsRow (drop i rows)
rows_from rows zero all = all
rows_from [] (suc i) all = tt
rows_from (r ∷ rows) (suc i) all = rows_from rows i all.1

pub order_rows : (s t : Stage) (rows : List Row) → IsInOrder s rows t → AllByRecursion IsRow rows
order_rows s t [] order = tt
order_rows s t (r ∷ rows) (one_more _ _ _ _ may is order) = (is, order_rows _ t rows order)

-- ---- the scans of a report
-- ---- one scan
pub no_rows : (study : Study) (scan : ScanItem) (line : ℕ) → HasFailed study scan line [] (WrongScan line)
no_rows study scan line scans found = refl

abbrev go_on_with : (study : Study) (scans : List ScanItem) (found : Found) → Ending → Option VerifyFault
go_on_with study scans found done = report_check study scans (found_too found done.counts) done.next done.rest

pub wrong_head : (study : Study) (scan : ScanItem) (line : ℕ) (head : Row) (lines : List Row) → is_line head (head_row study scan) ≡ false → HasFailed study scan line (head ∷ lines) (WrongScan line)
wrong_head study scan line head lines e scans found =
    ap (λ (same : Bool). if same then after_scan (scan_check (checking_of study scan) (told_at (unsigned_abs scan.from)) (next_line line) lines) (go_on_with study scans found) else Some (WrongScan line)) e

right_head : (study : Study) (scan : ScanItem) (line : ℕ) (head : Row) (lines : List Row) (checked : Result Ending VerifyFault) → is_line head (head_row study scan) ≡ true
    → scan_check (checking_of study scan) (told_at (unsigned_abs scan.from)) (next_line line) lines ≡ checked
    → (scans : List ScanItem) (found : Found) → report_check study (scan ∷ scans) found line (head ∷ lines) ≡ after_scan checked (go_on_with study scans found)
right_head study scan line head lines checked e c scans found =
    ap (λ (same : Bool). if same then after_scan (scan_check (checking_of study scan) (told_at (unsigned_abs scan.from)) (next_line line) lines) (go_on_with study scans found) else Some (WrongScan line)) e
    ∙ ap (λ (r : Result Ending VerifyFault). after_scan r (go_on_with study scans found)) c

-- by what the program checks by
pub checked_as : (study : Study) (scan : ScanItem) (c : Checking) (line : ℕ) (lines : List Row) (r : Result Ending VerifyFault) → c ≡ checking_of study scan → scan_check c (told_at c.spec.from) line lines ≡ r
    → scan_check (checking_of study scan) (told_at (unsigned_abs scan.from)) line lines ≡ r
checked_as study scan c line lines r is h = subst (λ (x : Checking). scan_check x (told_at x.spec.from) line lines ≡ r) is h

-- the rows from a place up to the last
pub rest_whole : (n : ℕ) (rows : List Row) → take (length rows - n) (drop n rows) ≡ drop n rows
rest_whole zero rows = let count : length rows - 0 ≡ length rows = omega arith in ap (λ (k : ℕ). take k rows) count ∙ take-length rows
rest_whole (suc n) [] =
    let nil : List Row = [] in
    let none : 0 - suc n ≡ 0 = omega arith in
    ap (λ (k : ℕ). take k nil) none
rest_whole (suc n) (r ∷ rows) = let count : length (r ∷ rows) - suc n ≡ length rows - n = omega arith in ap (λ (k : ℕ). take k (drop n rows)) count ∙ rest_whole n rows

-- rows that begin with a head
pub wrong_at : (study : Study) (scan : ScanItem) (line : ℕ) (rows : List Row) (head : Row) → 1 ≤ length rows → head ≡ get_or rows 0 head → is_line head (head_row study scan) ≡ false
    → HasFailed study scan line rows (WrongScan line)
wrong_at study scan line [] head some is e = absurd (omega (arith, some))
wrong_at study scan line (r ∷ rows) head some is e = wrong_head study scan line r rows (subst (λ (x : Row). is_line x (head_row study scan) ≡ false) is e)

pub fails_at : (study : Study) (scan : ScanItem) (line : ℕ) (rows : List Row) (head : Row) (fault : VerifyFault) → 1 ≤ length rows → head ≡ get_or rows 0 head → is_line head (head_row study scan) ≡ true
    → scan_check (checking_of study scan) (told_at (unsigned_abs scan.from)) (next_line line) (drop 1 rows) ≡ Err fault → HasFailed study scan line rows fault
fails_at study scan line [] head fault some is e h = absurd (omega (arith, some))
fails_at study scan line (r ∷ rows) head fault some is e h = right_head study scan line r rows (Err fault) (subst (λ (x : Row). is_line x (head_row study scan) ≡ true) is e) h

pub passes_at : (study : Study) (scan : ScanItem) (line : ℕ) (rows : List Row) (head : Row) (counts : Counts) (k next : ℕ) → 1 ≤ length rows → head ≡ get_or rows 0 head → is_line head (head_row study scan) ≡ true
    → scan_check (checking_of study scan) (told_at (unsigned_abs scan.from)) (next_line line) (drop 1 rows) ≡ Ok (record { counts = counts; next = next; rest = drop k (drop 1 rows) })
    → HasPassed study scan line rows (record { counts = counts; lines = k + 1; next = next })
passes_at study scan line [] head counts k next some is e h more found = absurd (omega (arith, some))
passes_at study scan line (r ∷ rows) head counts k next some is e h scans found =
    let count : suc k ≡ k + 1 = omega arith in
    right_head study scan line r rows (Ok (record { counts = counts; next = next; rest = drop k rows })) (subst (λ (x : Row). is_line x (head_row study scan) ≡ true) is e) h scans found
    ∙ ap (λ (n : ℕ). report_check study scans (found_too found counts) next (drop n (r ∷ rows))) count

-- ---- one scan after another
here : (study : Study) (scans : List ScanItem) (i : ℕ) (scan : ScanItem) → i < length scans → scan ≡ get_or scans i scan → (found : Found) (line : ℕ) (rows : List Row)
    → report_check study (drop i scans) found line rows ≡ report_check study (scan ∷ drop (i + 1) scans) found line rows
here study scans i scan inside is found line rows = ap (λ (s : List ScanItem). report_check study s found line rows) (front scans i scan inside is)

pub goes_on : (study : Study) (scans : List ScanItem) (i : ℕ) (scan : ScanItem) (found : Found) (line : ℕ) (rows : List Row) (ended : Ended) → i < length scans → scan ≡ get_or scans i scan
    → HasPassed study scan line rows ended
    → report_check study (drop (i + 1) scans) (found_too found ended.counts) ended.next (drop ended.lines rows) ≡ report_check study (drop i scans) found line rows
goes_on study scans i scan found line rows ended inside is passed = sym (here study scans i scan inside is found line rows ∙ passed (drop (i + 1) scans) found)

pub fails : (study : Study) (scans : List ScanItem) (i : ℕ) (scan : ScanItem) (found : Found) (line : ℕ) (rows : List Row) (fault : VerifyFault) → i < length scans → scan ≡ get_or scans i scan
    → HasFailed study scan line rows fault → report_check study (drop i scans) found line rows ≡ Some fault
fails study scans i scan found line rows fault inside is failed = here study scans i scan inside is found line rows ∙ failed (drop (i + 1) scans) found

scans_end : (study : Study) (scans : List ScanItem) (i : ℕ) (found : Found) (line : ℕ) (row : Row) (rows : List Row) → length scans ≤ i
    → report_check study (drop i scans) found line (row ∷ rows) ≡ last_check found line row
scans_end study scans i found line row rows past = ap (λ (s : List ScanItem). report_check study s found line (row ∷ rows)) (drop_all i scans past)

no_last : (study : Study) (scans : List ScanItem) (found : Found) (line : ℕ) → report_check study scans found line [] ≡ Some (WrongScan line)
no_last study [] found line = refl
no_last study (scan ∷ scans) found line = refl

-- ---- where the checks stand: after so many scans, at a place in the rows
pub record Standing (study : Study) (rows : List Row) (i : ℕ) (found : Found) (line place : ℕ) : Type 0 where
  pub within : place ≤ length rows
  pub on : report_check study (drop i study.scans) found line (drop place rows) ≡ first_fault study rows

pub standing_start : (study : Study) (rows : List Row) → Standing study rows 0 nothing_found 1 0
unfolding first_fault
standing_start study rows = record { within = omega arith; on = refl }

left_over : (rows : List Row) (a b : ℕ) → a ≤ length rows → b ≤ length (drop a rows) → a + b ≤ length rows
left_over rows zero b inside more = omega arith
left_over [] (suc a) b inside more = absurd (omega arith)
left_over (r ∷ rows) (suc a) b inside more = let less : a + b ≤ length rows = left_over rows a b (omega arith) more in omega arith

pub standing_next : (study : Study) (rows : List Row) (i : ℕ) (scan : ScanItem) (found : Found) (line place : ℕ) (ended : Ended) → Standing study rows i found line place → i < length study.scans
    → scan ≡ get_or study.scans i scan → HasPassed study scan line (drop place rows) ended → ended.lines ≤ length (drop place rows)
    → Standing study rows (i + 1) (found_too found ended.counts) ended.next (place + ended.lines)
standing_next study rows i scan found line place ended s inside is passed within = record {
  within = left_over rows place ended.lines s.within within;
  on = ap (report_check study (drop (i + 1) study.scans) (found_too found ended.counts) ended.next) (sym (drop-drop ended.lines place rows))
      ∙ goes_on study study.scans i scan found line (drop place rows) ended inside is passed ∙ s.on;
}

pub standing_stop : (study : Study) (rows : List Row) (i : ℕ) (scan : ScanItem) (found : Found) (line place : ℕ) (fault : VerifyFault) → Standing study rows i found line place → i < length study.scans
    → scan ≡ get_or study.scans i scan → HasFailed study scan line (drop place rows) fault → first_fault study rows ≡ Some fault
standing_stop study rows i scan found line place fault s inside is failed = sym s.on ∙ fails study study.scans i scan found line (drop place rows) fault inside is failed

pub standing_last : (study : Study) (rows : List Row) (i : ℕ) (found : Found) (line place : ℕ) (last : Row) → Standing study rows i found line place → length study.scans ≤ i → place < length rows
    → last ≡ get_or rows place last → first_fault study rows ≡ last_check found line last
standing_last study rows i found line place last s past inside is =
    sym s.on ∙ ap (report_check study (drop i study.scans) found line) (front rows place last inside is) ∙ scans_end study study.scans i found line last (drop (place + 1) rows) past

pub standing_none : (study : Study) (rows : List Row) (i : ℕ) (found : Found) (line place : ℕ) → Standing study rows i found line place → length rows ≤ place → first_fault study rows ≡ Some (WrongScan line)
standing_none study rows i found line place s past =
    sym s.on ∙ ap (report_check study (drop i study.scans) found line) (drop_all place rows past) ∙ no_last study (drop i study.scans) found line
