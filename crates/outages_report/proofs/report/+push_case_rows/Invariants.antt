use Rattle.std.proofs.Common.{length}
use Rattle.outages_report.proofs.report.+push_case_rows.Given as goal

abbrev pub decreases-push_case_rows : goal.decreases-push_case_rows
decreases-push_case_rows l = length l.cases.now
