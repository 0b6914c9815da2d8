use Rattle.std.proofs.Common.{length}
use Rattle.limits_report.proofs.table.+push_cells.Given as goal

abbrev pub decreases-push_cells : goal.decreases-push_cells
decreases-push_cells g l = length l.sites.now
