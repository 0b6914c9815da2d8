use Rattle.std.proofs.Common.{length}
use Rattle.outages_report.proofs.table.+push_found.Given as goal

abbrev pub decreases-push_found : goal.decreases-push_found
decreases-push_found g l = length l.outages.now
