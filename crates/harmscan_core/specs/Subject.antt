-- What a run reports of, and the files that it reads for it.
use Rattle.std.specs.Prelude.{ℕ, List, [], Option, Some, None, Result}
use Rattle.harm_io.specs.Shelves.{ShelfState}
use Rattle.study_model.specs.declared.records.Study.{Study}
use Rattle.spectrum_reader.specs.declared.injection.Injection.{Injection}
use Rattle.spectrum_reader.specs.declared.level.Level.{Level}
use Rattle.scan_report.specs.Reading.{text_of}
use Rattle.scan_report.specs.Rows.{row_text}
use Rattle.scan_report.specs.declared.rows.Row.{Row}
use Rattle.scan_report.specs.declared.rows.Row.TheVariants.{Verified}
use Rattle.drill_study.specs.Drill.{drill_of}
use Rattle.limits_report.specs.Claim.{HoldsOfLimits}
use Rattle.limits_report.specs.Report.{limits_rows_of, limits_status}
use Rattle.report_verify.specs.Claim.{HoldsOfReport}
use Rattle.report_verify.specs.FirstFault.{is_scan_row, is_box_row, counted_by}
use Rattle.harmscan_core.specs.Accepted.{IsAccepted, RefusesStudy, IsSpectrum, RefusesSpectrum, AreLevels, RefusesLevels, IsRightReport, RefusesReport}
use Rattle.study_scans.specs.Claim.{HoldsOfStudy}
use Rattle.harmscan_core.specs.Files.{Reads, TellsFile, Gives, Then}
use Rattle.study_scans.specs.Report.{report_text, report_status, status_by}
use Rattle.candidates_report.specs.Claim.{HoldsOfCandidates}
use Rattle.candidates_report.specs.Report.{candidates_rows_of, candidates_status}
use Rattle.outages_report.specs.Claim.{HoldsOfOutages}
use Rattle.outages_report.specs.Report.{outages_rows_of, outages_status}
use Rattle.tolerance_scan.specs.Claim.{HoldsOfTolerances}
use Rattle.tolerance_scan.specs.Report.{tolerance_test}
use Rattle.harmscan_core.specs.Drills.{drill_text}
use Rattle.harmscan_core.specs.Tolerances.{tolerance_text}
use Rattle.harmscan_core.specs.Words.{Reading, scan, candidates, tolerance, outages, limits, drill, verify}
use Rattle.harmscan_core.specs.declared.files.File.{File}
use Rattle.harmscan_core.specs.declared.files.File.TheVariants as file
use Rattle.harmscan_core.specs.declared.files.Refusal.{Refusal}
use Rattle.harmscan_core.specs.declared.outcome.Outcome.{Outcome}

-- The scans of a study, with candidate banks, for all values within tolerances or without listed elements, the distortion that a spectrum causes in it, judged
-- by planning levels too, the scan of a drill, or the rows of a report that is right of a study.
pub data Subject : Type 0 where
  scanned : Study → Subject
  with_banks : Study → Subject
  within_tolerances : Study → Subject
  without_elements : Study → Subject
  distorted : Study → List Injection → List Level → Subject
  drilled : ℕ → Subject
  verified : Study → List Row → Subject

-- the bytes of its report
abbrev pub text_for : Subject → List ℕ
text_for (scanned study) = report_text study
text_for (with_banks study) = text_of (candidates_rows_of study)
text_for (within_tolerances study) = tolerance_text study
text_for (without_elements study) = text_of (outages_rows_of study)
text_for (distorted study rows levels) = text_of (limits_rows_of study rows levels)
text_for (drilled number) = drill_text number
text_for (verified study rows) = row_text (Verified (counted_by is_scan_row rows) (counted_by is_box_row rows))

-- the status of its report
abbrev pub status_for : Subject → ℕ
status_for (scanned study) = report_status study
status_for (with_banks study) = candidates_status study
status_for (within_tolerances study) = status_by (tolerance_test study) study
status_for (without_elements study) = outages_status study
status_for (distorted study rows levels) = limits_status study rows levels
status_for (drilled number) = report_status (drill_of number)
status_for (verified study rows) = 0

-- what its report claims
abbrev pub Claims : Subject → Type 0
Claims (scanned study) = HoldsOfStudy study
Claims (with_banks study) = HoldsOfCandidates study
Claims (within_tolerances study) = HoldsOfTolerances study
Claims (without_elements study) = HoldsOfOutages study
Claims (distorted study rows levels) = HoldsOfLimits study rows levels
Claims (drilled number) = HoldsOfStudy (drill_of number)
Claims (verified study rows) = HoldsOfReport study rows

-- a way in which a file is read: what its bytes may be, for what they may be refused, its name, the shelf before and after, and the answer
abbrev pub FileReading : Type 1
FileReading = (A : Type 0) → File → (List ℕ → A → Type 0) → (List ℕ → Refusal → Type 0) → List ℕ → ShelfState → ShelfState → Result A Outcome → Type 0

-- a study: its refusals are those of its bytes and those of its networks
abbrev pub StudyBy : FileReading → List ℕ → ShelfState → ShelfState → Result Study Outcome → Type 0
StudyBy read name = read Study file.Study IsAccepted RefusesStudy name

-- a spectrum beside a study
abbrev pub SpectrumBy : FileReading → Study → List ℕ → ShelfState → ShelfState → Result (List Injection) Outcome → Type 0
SpectrumBy read study name = read (List Injection) file.Spectrum (IsSpectrum study) (RefusesSpectrum study) name

-- planning levels beside a study, which are none where the words name no file of them
abbrev pub LevelsBy : FileReading → Study → Option (List ℕ) → ShelfState → ShelfState → Result (List Level) Outcome → Type 0
LevelsBy read study None = Gives []
LevelsBy read study (Some name) = read (List Level) file.Levels (AreLevels study) (RefusesLevels study) name

-- a report that is right of a study
abbrev pub ReportBy : FileReading → Study → List ℕ → ShelfState → ShelfState → Result (List Row) Outcome → Type 0
ReportBy read study name = read (List Row) file.Report (IsRightReport study) (RefusesReport study) name

-- What the words name, each file read in this way, one after another.
abbrev pub SubjectBy : FileReading → Reading → ShelfState → ShelfState → Result Subject Outcome → Type 0
SubjectBy read (scan study) = Then (StudyBy read study) (λ s. Gives (scanned s))
SubjectBy read (candidates study) = Then (StudyBy read study) (λ s. Gives (with_banks s))
SubjectBy read (tolerance study) = Then (StudyBy read study) (λ s. Gives (within_tolerances s))
SubjectBy read (outages study) = Then (StudyBy read study) (λ s. Gives (without_elements s))
SubjectBy read (limits study spectrum levels) =
    Then (StudyBy read study) (λ s. Then (SpectrumBy read s spectrum) (λ rows. Then (LevelsBy read s levels) (λ l. Gives (distorted s rows l))))
SubjectBy read (drill number) = Gives (drilled number)
SubjectBy read (verify study report) = Then (StudyBy read study) (λ s. Then (ReportBy read s report) (λ rows. Gives (verified s rows)))

-- what a run reads
abbrev pub ReadsFor : Reading → ShelfState → ShelfState → Result Subject Outcome → Type 0
ReadsFor = SubjectBy Reads

-- what the shelf tells of it, up to the file that ends the run
abbrev pub TellsFor : Reading → ShelfState → Result Subject Outcome → Type 0
TellsFor r shelf = SubjectBy TellsFile r shelf shelf
