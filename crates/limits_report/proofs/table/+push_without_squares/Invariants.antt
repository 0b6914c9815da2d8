use Rattle.std.proofs.Common.{length}
use Rattle.limits_report.proofs.table.+push_without_squares.Given as goal

abbrev pub decreases-push_without_squares : goal.decreases-push_without_squares
decreases-push_without_squares l = length l.sites.now
