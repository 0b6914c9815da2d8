-- Bytes are one report at most that is right of a study, or are refused for one fault at most, and not both; and what `verify` puts.
use Rattle.std.proofs.Common.{◌≡◌, ◌≢◌, ◌≤◌, ◌∙◌, ℕ, List, length, IfSome, Some, None, Err, refl, ap, sym, subst}
use Rattle.harm_io.specs.Shelves.{ShelfState, asked_too, Fetches}
use Rattle.harm_io.specs.Sinks.{SinkState, took, Writes}
use Rattle.harm_io.specs.declared.shelf.FetchFault.{FetchFault}
use Rattle.harm_io.specs.declared.sink.PutFault.{PutFault}
use Rattle.study_model.specs.declared.records.Study.{Study}
use Rattle.scan_report.specs.Reading.{IsReport, IsBadAt, BadLine}
use Rattle.scan_report.specs.Rows.{row_text}
use Rattle.scan_report.specs.declared.reading.ReportFault.{ReportFault}
use Rattle.scan_report.specs.declared.reading.ReportFault.TheVariants as report_fault
use Rattle.scan_report.specs.declared.rows.Row.{Row}
use Rattle.scan_report.specs.declared.rows.Row.TheVariants.{Verified}
use Rattle.scan_report.proofs.Excluded.{no_report_is_bad, one_report, one_bad_line}
use Rattle.report_verify.specs.Claim.{HoldsOfReport}
use Rattle.report_verify.specs.FirstFault.{first_fault, is_scan_row, is_box_row, counted_by}
use Rattle.report_verify.specs.declared.fault.VerifyFault.{VerifyFault}
use Rattle.report_verify.specs.declared.fault.VerifyFault.TheVariants as verify_fault
use Rattle.harmscan_core.specs.Accepted.{IsRightReport, IsWrongReport, RefusedFor, RefusesReport, unread, wrong}
use Rattle.harmscan_core.specs.Files.{longest_file, Reads}
use Rattle.harmscan_core.specs.Inputs.{IsVerified}
use Rattle.harmscan_core.specs.Outcome.{IsReported, Reports, EndsAt, outcome_of_fetch, outcome_of_put}
use Rattle.harmscan_core.specs.Subject.{ReportBy, verified}
use Rattle.harmscan_core.specs.declared.files.File.TheVariants as file
use Rattle.harmscan_core.specs.declared.files.Refusal.{Refusal}
use Rattle.harmscan_core.specs.declared.files.Refusal.TheVariants as refusal
use Rattle.harmscan_core.specs.declared.inputs.RightReport.{RightReport}
use Rattle.harmscan_core.specs.declared.outcome.Outcome.{Outcome}
use Rattle.harmscan_core.proofs.Accepted.{decided, unfetched, faulty}
use Rattle.harmscan_core.proofs.Chains.{IsDecided}
use Rattle.harmscan_core.proofs.Written.{not_taken}

-- ---- bytes that are no report
not_report : (study : Study) (bytes : List ℕ) (rows : List Row) (f : ReportFault) → IsRightReport study bytes rows → BadLine bytes f → ⊥
not_report study bytes rows (report_fault.BadRow line) is bad = no_report_is_bad bytes rows line is.read bad
not_report study bytes rows report_fault.NoMemory is bad = bad

same_unread : (bytes : List ℕ) (f g : ReportFault) → BadLine bytes f → BadLine bytes g → f ≡ g
same_unread bytes (report_fault.BadRow m) (report_fault.BadRow n) h k = ap report_fault.BadRow (one_bad_line bytes m n h k)
same_unread bytes (report_fault.BadRow m) report_fault.NoMemory h k = absurd k
same_unread bytes report_fault.NoMemory g h k = absurd h

not_unread : (study : Study) (bytes : List ℕ) (f : ReportFault) (g : VerifyFault) → BadLine bytes f → IsWrongReport study bytes g → ⊥
not_unread study bytes (report_fault.BadRow line) g bad is = no_report_is_bad bytes is.rows line is.read bad
not_unread study bytes report_fault.NoMemory g bad is = bad

-- ---- a report that isn't right
right_rows : (study : Study) (bytes : List ℕ) (a b : List Row) → IsRightReport study bytes a → IsRightReport study bytes b → a ≡ b
right_rows study bytes a b h k = one_report bytes a b h.read k.read

not_wrong : (study : Study) (bytes : List ℕ) (rows : List Row) (f : VerifyFault) → IsRightReport study bytes rows → IsWrongReport study bytes f → ⊥
not_wrong study bytes rows f is bad =
    let same : rows ≡ bad.rows = one_report bytes rows bad.rows is.read bad.read in
    let right : first_fault study rows ≡ None = is.right in
    let failed : first_fault study bad.rows ≡ Some f = bad.wrong in
    cc

same_wrong : (study : Study) (bytes : List ℕ) (f g : VerifyFault) → IsWrongReport study bytes f → IsWrongReport study bytes g → f ≡ g
same_wrong study bytes f g h k =
    let same : h.rows ≡ k.rows = one_report bytes h.rows k.rows h.read k.read in
    let first : first_fault study h.rows ≡ Some f = h.wrong in
    let second : first_fault study k.rows ≡ Some g = k.wrong in
    cc

unread_decided : (study : Study) → IsDecided (IsRightReport study) (λ bytes. RefusedFor report_fault.NoMemory refusal.Report (BadLine bytes))
unread_decided study = decided (IsRightReport study) report_fault.NoMemory refusal.Report BadLine (right_rows study) (not_report study) same_unread

wrong_decided : (study : Study) → IsDecided (IsRightReport study) (λ bytes. RefusedFor verify_fault.NoMemory refusal.Verify (IsWrongReport study bytes))
wrong_decided study = decided (IsRightReport study) verify_fault.NoMemory refusal.Verify (IsWrongReport study) (right_rows study) (not_wrong study) (same_wrong study)

not_both : (study : Study) (bytes : List ℕ) (rows : List Row) (r : Refusal) → IsRightReport study bytes rows → RefusesReport study bytes r → ⊥
not_both study bytes rows r is (unread h) = (unread_decided study).not_both bytes rows r is h
not_both study bytes rows r is (wrong h) = (wrong_decided study).not_both bytes rows r is h

one_refusal : (study : Study) (bytes : List ℕ) (q r : Refusal) → RefusesReport study bytes q → RefusesReport study bytes r → q ≡ r
one_refusal study bytes q r (unread h) (unread k) = (unread_decided study).one_refusal bytes q r h k
one_refusal study bytes q r (unread h) (wrong k) = absurd (not_unread study bytes h.fault k.fault h.fails k.fails)
one_refusal study bytes q r (wrong h) (unread k) = absurd (not_unread study bytes k.fault h.fault k.fails h.fails)
one_refusal study bytes q r (wrong h) (wrong k) = (wrong_decided study).one_refusal bytes q r h k

pub report_decided : (study : Study) → IsDecided (IsRightReport study) (RefusesReport study)
report_decided study = record { one = right_rows study; not_both = not_both study; one_refusal = one_refusal study }

-- ---- how a reading ends
pub report_unfetched : (study : Study) (name : List ℕ) (before now : ShelfState) (f : FetchFault) (o : Outcome) → Fetches name longest_file before now (Err f) → o ≡ outcome_of_fetch file.Report f
    → ReportBy Reads study name before now (Err o)
report_unfetched study name before now f o = unfetched (List Row) file.Report (IsRightReport study) (RefusesReport study) name before now f o

-- bytes that were given for a file are no report
pub report_unread : (study : Study) (name bytes : List ℕ) (before now : ShelfState) (f : ReportFault) (o : Outcome) → now ≡ asked_too before name → IfSome (before.file name) (λ b. bytes ≡ b)
    → length bytes ≤ longest_file → (f ≢ report_fault.NoMemory → BadLine bytes f) → EndsAt report_fault.NoMemory refusal.Report f o → ReportBy Reads study name before now (Err o)
report_unread study name bytes before now f o e given fits r h =
    faulty (List Row) file.Report (IsRightReport study) (RefusesReport study) name bytes before now ReportFault report_fault.NoMemory refusal.Report f o e given fits
    (λ n. unread (record { fault = f; no_lack = n; fails = r n; is = refl })) h

-- they are one that isn't right of the study
pub report_wrong : (study : Study) (name bytes : List ℕ) (rows : List Row) (before now : ShelfState) (f : VerifyFault) (o : Outcome) → now ≡ asked_too before name
    → IfSome (before.file name) (λ b. bytes ≡ b) → length bytes ≤ longest_file → IsReport bytes rows → (f ≢ verify_fault.NoMemory → first_fault study rows ≡ Some f)
    → EndsAt verify_fault.NoMemory refusal.Verify f o → ReportBy Reads study name before now (Err o)
report_wrong study name bytes rows before now f o e given fits read r h =
    faulty (List Row) file.Report (IsRightReport study) (RefusesReport study) name bytes before now VerifyFault verify_fault.NoMemory refusal.Verify f o e given fits
    (λ n. wrong (record { fault = f; no_lack = n; fails = record { rows = rows; read = read; wrong = r n }; is = refl })) h

-- ---- what is put
pub verified_written : (study : Study) (right : RightReport) (line : List ℕ) (out out' : SinkState) → IsVerified study right → line ≡ row_text (Verified right.verified.scans right.verified.boxes)
    → out' ≡ took out line → IsReported (verified study right.report.rows) 0 out out'
verified_written study right line out out' is text wrote = record {
  status_is = refl;
  written = wrote ∙ ap (took out) text ∙ ap (λ (n : ℕ). took out (row_text (Verified n right.verified.boxes))) is.scans
      ∙ ap (λ (n : ℕ). took out (row_text (Verified (counted_by is_scan_row right.report.rows) n))) is.boxes;
  claim = is.holds;
}

pub verified_not_taken : (study : Study) (right : RightReport) (line : List ℕ) (out out' : SinkState) (fault : PutFault) (o : Outcome) → IsVerified study right
    → line ≡ row_text (Verified right.verified.scans right.verified.boxes) → Writes {A = Unit {0}} line out out' (Err fault) → o ≡ outcome_of_put fault
    → Reports (verified study right.report.rows) out out' o
verified_not_taken study right line out out' fault o is text h e =
    let same : line ≡ row_text (Verified (counted_by is_scan_row right.report.rows) (counted_by is_box_row right.report.rows)) =
    text ∙ ap (λ (n : ℕ). row_text (Verified n right.verified.boxes)) is.scans ∙ ap (λ (n : ℕ). row_text (Verified (counted_by is_scan_row right.report.rows) n)) is.boxes in
    not_taken (Unit {0}) (verified study right.report.rows) out out' fault o (subst (λ (t : List ℕ). Writes {A = Unit {0}} t out out' (Err fault)) same h) e
