use Rattle.std.proofs.Common.{◌≡◌, drop, max}
use Rattle.branchwise_test.specs.Reach.{theta_over}
use Rattle.drop_bench.proofs.contraction.theta_over.Given as goal

abbrev pub invariant-loop-i : goal.invariant-loop-i
invariant-loop-i l = max l.theta (theta_over l.scale (drop l.i l.reached) (drop l.i l.weights)) ≡ theta_over l.scale l.reached l.weights
