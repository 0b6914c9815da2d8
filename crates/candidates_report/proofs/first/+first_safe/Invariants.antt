use Rattle.std.proofs.Common.{length}
use Rattle.candidates_report.proofs.first.+first_safe.Given as goal

abbrev pub decreases-first_safe : goal.decreases-first_safe
decreases-first_safe l = length l.sizes.now
