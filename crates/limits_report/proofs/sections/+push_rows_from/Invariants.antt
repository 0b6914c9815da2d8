use Rattle.std.proofs.Common.{length}
use Rattle.limits_report.proofs.sections.+push_rows_from.Given as goal

abbrev pub decreases-push_rows_from : goal.decreases-push_rows_from
decreases-push_rows_from l = length l.sites.now
