use Rattle.std.proofs.Common.{length}
use Rattle.outages_report.proofs.report.+push_outages.Given as goal

abbrev pub decreases-push_outages : goal.decreases-push_outages
decreases-push_outages l = length l.table.now
