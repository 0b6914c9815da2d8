use Rattle.std.proofs.Common.{◌≡◌}
use Rattle.tolerance_scan.proofs.Apart.{IsPairSoFar}
use Rattle.tolerance_scan.proofs.pair.first_apart.Given as goal

abbrev pub invariant-loop-branch : goal.invariant-loop-branch
invariant-loop-branch l = record { so_far : IsPairSoFar l.low l.high l.branch-index; at : l.number ≡ l.branch-index }
