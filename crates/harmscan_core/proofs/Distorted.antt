-- What a report on distortion says that was put, or that wasn't taken whole.
use Rattle.std.proofs.Common.{◌≡◌, ℕ, List, Err, refl}
use Rattle.harm_io.specs.Sinks.{SinkState, took, Writes}
use Rattle.harm_io.specs.declared.sink.PutFault.{PutFault}
use Rattle.study_model.specs.declared.records.Study.{Study}
use Rattle.scan_report.specs.Reading.{text_of}
use Rattle.scan_report.specs.declared.rows.Row.{Row}
use Rattle.spectrum_reader.specs.declared.injection.Injection.{Injection}
use Rattle.spectrum_reader.specs.declared.level.Level.{Level}
use Rattle.limits_report.specs.Claim.{HoldsOfLimits}
use Rattle.limits_report.specs.Report.{limits_rows_of, limits_status}
use Rattle.harmscan_core.proofs.PutRows.{rows_written, rows_not_taken}
use Rattle.harmscan_core.specs.Outcome.{IsReported, Reports, outcome_of_put}
use Rattle.harmscan_core.specs.Subject.{distorted}
use Rattle.harmscan_core.specs.declared.outcome.Outcome.{Outcome}

pub distortion_not_taken : (study : Study) (injections : List Injection) (levels : List Level) (rows : List Row) (out out' : SinkState) (fault : PutFault) (o : Outcome) → rows ≡ limits_rows_of study injections levels
    → Writes {A = Unit {0}} (text_of rows) out out' (Err fault) → o ≡ outcome_of_put fault → Reports (distorted study injections levels) out out' o
distortion_not_taken study injections levels rows out out' fault o is h e = rows_not_taken (distorted study injections levels) rows (limits_rows_of study injections levels) out out' fault o is refl h e

pub distortion_written : (study : Study) (injections : List Injection) (levels : List Level) (rows : List Row) (status : ℕ) (out out' : SinkState) → rows ≡ limits_rows_of study injections levels
    → status ≡ limits_status study injections levels → HoldsOfLimits study injections levels → out' ≡ took out (text_of rows) → IsReported (distorted study injections levels) status out out'
distortion_written study injections levels rows status out out' is shows holds wrote =
    rows_written (distorted study injections levels) rows (limits_rows_of study injections levels) status out out' is refl shows holds wrote
