use Rattle.branchwise_test.specs.Reach.{add_up}
use Rattle.drop_bench.proofs.Plain.{TwoTo}
use Rattle.drop_bench.proofs.reach.times_numbers.Given as goal

abbrev pub invariant-loop-i : goal.invariant-loop-i
invariant-loop-i l = TwoTo (add_up l.scale 0) l.initial.far l.far l.numbers l.i
