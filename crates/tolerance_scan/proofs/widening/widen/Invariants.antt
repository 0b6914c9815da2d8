use Rattle.std.proofs.Common.{take}
use Rattle.tolerance_scan.proofs.Kept.{AreWidened}
use Rattle.tolerance_scan.proofs.widening.widen.Given as goal

abbrev pub invariant-loop-branch : goal.invariant-loop-branch
invariant-loop-branch l = AreWidened l.owner l.factor (take l.branch-index l.network.branches) l.branches
