-- What the files of `limits` and of `verify` are.
use Rattle.std.specs.Prelude.{◌≡◌, List, Result, Ok, Err}
use Rattle.spectrum_reader.specs.declared.injection.Injection.{Injection}
use Rattle.spectrum_reader.specs.declared.level.Level.{Level}
use Rattle.spectrum_reader.specs.declared.injection.Spectrum.{Spectrum}
use Rattle.spectrum_reader.specs.declared.level.Levels.{Levels}
use Rattle.study_model.specs.declared.records.Study.{Study}
use Rattle.harmscan_core.specs.Subject.{Subject, distorted, verified}
use Rattle.harmscan_core.specs.declared.inputs.AcceptedStudy.{AcceptedStudy}
use Rattle.harmscan_core.specs.declared.inputs.Inputs.{Inputs}
use Rattle.harmscan_core.specs.declared.inputs.RightReport.{RightReport}
use Rattle.harmscan_core.specs.declared.inputs.Checked.{Checked}
use Rattle.report_verify.specs.Claim.{HoldsOfReport}
use Rattle.report_verify.specs.FirstFault.{is_scan_row, is_box_row, counted_by}
use Rattle.scan_report.specs.declared.rows.Row.{Row}
use Rattle.harmscan_core.specs.declared.outcome.Outcome.{Outcome}

-- a study without its networks
abbrev pub study_alone : Result AcceptedStudy Outcome → Result Study Outcome
study_alone (Ok accepted) = Ok accepted.study
study_alone (Err outcome) = Err outcome

-- the currents of a spectrum
abbrev pub injections_in : Result Spectrum Outcome → Result (List Injection) Outcome
injections_in (Ok spectrum) = Ok spectrum.rows
injections_in (Err outcome) = Err outcome

-- the rows of planning levels
abbrev pub levels_in : Result Levels Outcome → Result (List Level) Outcome
levels_in (Ok levels) = Ok levels.rows
levels_in (Err outcome) = Err outcome

-- the rows of a report that is right
abbrev pub rows_in : Result RightReport Outcome → Result (List Row) Outcome
rows_in (Ok right) = Ok right.report.rows
rows_in (Err outcome) = Err outcome

abbrev pub subject_in : Inputs → Subject
subject_in inputs = distorted inputs.accepted.study inputs.spectrum.rows inputs.levels.rows

abbrev pub subject_of : Result Inputs Outcome → Result Subject Outcome
subject_of (Ok inputs) = Ok (subject_in inputs)
subject_of (Err outcome) = Err outcome

-- and so of `verify`
abbrev pub checked_in : Checked → Subject
checked_in checked = verified checked.accepted.study checked.right.report.rows

abbrev pub checked_of : Result Checked Outcome → Result Subject Outcome
checked_of (Ok checked) = Ok (checked_in checked)
checked_of (Err outcome) = Err outcome

-- a report whose boxes are true of a study, with the numbers of its scans and boxes
pub record IsVerified (study : Study) (right : RightReport) : Type 0 where
  pub holds : HoldsOfReport study right.report.rows
  pub scans : right.verified.scans ≡ counted_by is_scan_row right.report.rows
  pub boxes : right.verified.boxes ≡ counted_by is_box_row right.report.rows
