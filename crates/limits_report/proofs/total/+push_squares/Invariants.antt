use Rattle.std.proofs.Common.{length}
use Rattle.limits_report.proofs.total.+push_squares.Given as goal

abbrev pub decreases-push_squares : goal.decreases-push_squares
decreases-push_squares l = length l.cells.now
