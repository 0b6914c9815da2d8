use Rattle.std.proofs.Common.{length}
use Rattle.limits_report.proofs.sections.+push_points_from.Given as goal

abbrev pub decreases-push_points_from : goal.decreases-push_points_from
decreases-push_points_from l = length l.points.now
