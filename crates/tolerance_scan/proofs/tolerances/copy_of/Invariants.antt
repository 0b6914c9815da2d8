use Rattle.std.proofs.Common.{◌≡◌, take}
use Rattle.tolerance_scan.proofs.tolerances.copy_of.Given as goal

abbrev pub invariant-loop-branch : goal.invariant-loop-branch
invariant-loop-branch l = l.branches ≡ take l.branch-index l.network.branches
