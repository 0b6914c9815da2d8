use Rattle.std.proofs.Common.{length}
use Rattle.harmscan_core.proofs.Plans.{Putting}
use Rattle.harmscan_core.proofs.report.put_scans.Given as goal

abbrev pub invariant-scans : goal.invariant-scans
invariant-scans g l = Putting l.study l.initial.plan.items l.plan.items l.found (g.O.Sink.state l.initial.out) (g.O.Sink.state l.out)

abbrev pub decreases-scans : goal.decreases-scans
decreases-scans g l = length l.plan.items
