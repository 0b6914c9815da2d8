use Rattle.std.proofs.Common.{◌-◌, length}
use Rattle.candidates_report.proofs.Tried.{AreTried}
use Rattle.candidates_report.proofs.sizes.all_sizes.Given as goal

abbrev pub invariant-sizes : goal.invariant-sizes
invariant-sizes g l = AreTried g.E.Enclosure.SCALE l.initial.candidates l.candidates l.rows

abbrev pub decreases-sizes : goal.decreases-sizes
decreases-sizes g l = length l.candidates.sizes - l.candidates.given
