use Rattle.std.proofs.Common.{length}
use Rattle.limits_report.proofs.sections.+push_totals_from.Given as goal

abbrev pub decreases-push_totals_from : goal.decreases-push_totals_from
decreases-push_totals_from l = length l.sites.now
