-- What the reports on candidates and on outages say that were put, or that weren't taken whole.
use Rattle.std.proofs.Common.{◌≡◌, ℕ, List, Err, refl}
use Rattle.harm_io.specs.Sinks.{SinkState, took, Writes}
use Rattle.harm_io.specs.declared.sink.PutFault.{PutFault}
use Rattle.study_model.specs.declared.records.Study.{Study}
use Rattle.scan_report.specs.Reading.{text_of}
use Rattle.scan_report.specs.declared.rows.Row.{Row}
use Rattle.candidates_report.specs.Claim.{HoldsOfCandidates}
use Rattle.candidates_report.specs.Report.{candidates_rows_of, candidates_status}
use Rattle.outages_report.specs.Claim.{HoldsOfOutages}
use Rattle.outages_report.specs.Report.{outages_rows_of, outages_status}
use Rattle.harmscan_core.proofs.PutRows.{rows_written, rows_not_taken}
use Rattle.harmscan_core.specs.Outcome.{IsReported, Reports, outcome_of_put}
use Rattle.harmscan_core.specs.Subject.{with_banks, without_elements}
use Rattle.harmscan_core.specs.declared.outcome.Outcome.{Outcome}

pub candidates_not_taken : (study : Study) (rows : List Row) (out out' : SinkState) (fault : PutFault) (o : Outcome) → rows ≡ candidates_rows_of study
    → Writes {A = Unit {0}} (text_of rows) out out' (Err fault) → o ≡ outcome_of_put fault → Reports (with_banks study) out out' o
candidates_not_taken study rows out out' fault o is h e = rows_not_taken (with_banks study) rows (candidates_rows_of study) out out' fault o is refl h e

pub candidates_written : (study : Study) (rows : List Row) (status : ℕ) (out out' : SinkState) → rows ≡ candidates_rows_of study → status ≡ candidates_status study → HoldsOfCandidates study
    → out' ≡ took out (text_of rows) → IsReported (with_banks study) status out out'
candidates_written study rows status out out' is shows holds wrote = rows_written (with_banks study) rows (candidates_rows_of study) status out out' is refl shows holds wrote

pub outages_not_taken : (study : Study) (rows : List Row) (out out' : SinkState) (fault : PutFault) (o : Outcome) → rows ≡ outages_rows_of study
    → Writes {A = Unit {0}} (text_of rows) out out' (Err fault) → o ≡ outcome_of_put fault → Reports (without_elements study) out out' o
outages_not_taken study rows out out' fault o is h e = rows_not_taken (without_elements study) rows (outages_rows_of study) out out' fault o is refl h e

pub outages_written : (study : Study) (rows : List Row) (status : ℕ) (out out' : SinkState) → rows ≡ outages_rows_of study → status ≡ outages_status study → HoldsOfOutages study
    → out' ≡ took out (text_of rows) → IsReported (without_elements study) status out out'
outages_written study rows status out out' is shows holds wrote = rows_written (without_elements study) rows (outages_rows_of study) status out out' is refl shows holds wrote
