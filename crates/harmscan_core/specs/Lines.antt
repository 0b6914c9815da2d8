-- The lines on standard error.
use Rattle.std.specs.Prelude.{ℕ, List, [], ◌∷◌, ◌++◌, codes, Option, Some, None}
use Rattle.std.specs.Fmt.{decimal}
use Rattle.study_model.specs.Words.{section_text, key_text}
use Rattle.study_model.specs.declared.fault.Place.{Place}
use Rattle.study_model.specs.declared.fault.StudyFault.{StudyFault}
use Rattle.study_model.specs.Faults.{fault_number, fault_name, fault_place}
use Rattle.spectrum_reader.specs.Faults.{PrintedFault, spectrum_printed, levels_printed}
use Rattle.scan_report.specs.declared.reading.ReportFault.{ReportFault}
use Rattle.scan_report.specs.declared.reading.ReportFault.TheVariants as report_fault
use Rattle.report_verify.specs.declared.fault.VerifyFault.{VerifyFault}
use Rattle.report_verify.specs.declared.fault.VerifyFault.TheVariants as verify_fault
use Rattle.harmscan_core.specs.declared.files.File.{File}
use Rattle.harmscan_core.specs.declared.files.File.TheVariants as file
use Rattle.harmscan_core.specs.declared.files.Refusal.{Refusal}
use Rattle.harmscan_core.specs.declared.files.Refusal.TheVariants as refusal
use Rattle.harmscan_core.specs.declared.outcome.Outcome.{Outcome}
use Rattle.harmscan_core.specs.declared.outcome.Outcome.TheVariants as outcome

-- the word of a file
abbrev pub file_text : File → List ℕ
file_text file.Study = codes "study"
file_text file.Spectrum = codes "spectrum"
file_text file.Levels = codes "levels"
file_text file.Report = codes "report"

-- a place, with a blank before each of its three words
abbrev pub place_text : Option Place → List ℕ
place_text None = []
place_text (Some place) = codes " " ++ section_text place.section ++ codes " " ++ decimal place.entry ++ codes " " ++ key_text place.key

-- a refusal's number, where it has one
abbrev pub number_text : Option ℕ → List ℕ
number_text None = []
number_text (Some number) = decimal number

-- the refusal of a study: its number, its name and its place
unfoldable pub refusal_text : StudyFault → List ℕ
refusal_text fault = number_text (fault_number fault) ++ codes " " ++ fault_name fault ++ place_text (fault_place fault)

-- the number of a row after a blank, where there is one
abbrev pub row_number_text : Option ℕ → List ℕ
row_number_text None = []
row_number_text (Some row) = codes " " ++ decimal row

-- the refusal of another file: its number, its name and its row
unfoldable pub printed_text : PrintedFault → List ℕ
printed_text fault = number_text fault.number ++ codes " " ++ fault.name ++ row_number_text fault.row

-- why bytes are no report: the fault's number, its name and the line
abbrev pub report_text : ReportFault → List ℕ
report_text (report_fault.BadRow line) = codes "1 BadRow " ++ decimal line
report_text report_fault.NoMemory = []

-- and why a report isn't right of a study
abbrev pub verify_text : VerifyFault → List ℕ
verify_text (verify_fault.WrongScan line) = codes "2 WrongScan " ++ decimal line
verify_text (verify_fault.Gap line) = codes "3 Gap " ++ decimal line
verify_text (verify_fault.NotCleared line) = codes "4 NotCleared " ++ decimal line
verify_text (verify_fault.NotPeak line) = codes "5 NotPeak " ++ decimal line
verify_text (verify_fault.NotUndecided line) = codes "6 NotUndecided " ++ decimal line
verify_text (verify_fault.WrongCount line) = codes "7 WrongCount " ++ decimal line
verify_text verify_fault.NoMemory = []

-- what a refusal's line says of it
abbrev pub refused_text : Refusal → List ℕ
refused_text (refusal.Study fault) = codes "study refused: " ++ refusal_text fault
refused_text (refusal.Spectrum fault) = codes "spectrum refused: " ++ printed_text (spectrum_printed fault)
refused_text (refusal.Levels fault) = codes "levels refused: " ++ printed_text (levels_printed fault)
refused_text (refusal.Report fault) = codes "report refused: " ++ report_text fault
refused_text (refusal.Verify fault) = codes "report refused: " ++ verify_text fault

-- the line for an outcome, or none
abbrev pub line_at : Outcome → Option (List ℕ)
line_at outcome.WordsRefused = Some (codes "harmscan: words refused" ++ 10 ∷ [])
line_at (outcome.ReadFailed file) = Some (codes "harmscan: cannot read " ++ file_text file ++ 10 ∷ [])
line_at (outcome.TooLarge file) = Some (codes "harmscan: " ++ file_text file ++ codes " too large" ++ 10 ∷ [])
line_at (outcome.Refused refusal) = Some (codes "harmscan: " ++ refused_text refusal ++ 10 ∷ [])
line_at outcome.WriteFailed = Some (codes "harmscan: cannot write report" ++ 10 ∷ [])
line_at outcome.NoMemory = Some (codes "harmscan: out of memory" ++ 10 ∷ [])
line_at (outcome.Written status) = None
