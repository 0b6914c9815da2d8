use Rattle.std.proofs.Common.{length}
use Rattle.limits_report.proofs.site.+push_bus_sites.Given as goal

abbrev pub decreases-push_bus_sites : goal.decreases-push_bus_sites
decreases-push_bus_sites l = length l.buses.now
