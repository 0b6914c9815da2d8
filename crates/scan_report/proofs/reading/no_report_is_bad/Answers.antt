use Rattle.scan_report.proofs.Excluded.{no_report_is_bad}
use Rattle.scan_report.proofs.reading.no_report_is_bad.Goals as goal

pub returns : goal.returns
returns c = record { law = no_report_is_bad }
