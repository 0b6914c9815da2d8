use Rattle.std.proofs.Common.{length}
use Rattle.limits_report.proofs.site.+push_all_points.Given as goal

abbrev pub decreases-push_all_points : goal.decreases-push_all_points
decreases-push_all_points l = length l.points.now
