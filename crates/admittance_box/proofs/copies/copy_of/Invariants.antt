use Rattle.std.proofs.Common.{◌≡◌, ◌++◌, drop}
use Rattle.admittance_box.proofs.copies.copy_of.Given as goal

abbrev pub invariant-loop-branch : goal.invariant-loop-branch
invariant-loop-branch l = l.branches ++ drop l.branch-index l.network.branches ≡ l.network.branches
