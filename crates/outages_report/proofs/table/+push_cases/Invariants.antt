use Rattle.std.proofs.Common.{length}
use Rattle.outages_report.proofs.table.+push_cases.Given as goal

abbrev pub decreases-push_cases : goal.decreases-push_cases
decreases-push_cases g l = length l.scans.now
