use Rattle.std.proofs.Common.{refl}
use Rattle.branchwise_test.specs.Enclosed.{moved}
use Rattle.drop_bench.proofs.estimate.moved.Goals as goal

pub returns-in-Some : goal.returns-in-Some
unfolding moved
returns-in-Some g c = rw (← c.in-Some.ensures) refl

pub returns-in-None : goal.returns-in-None
unfolding moved
returns-in-None g c = rw (← c.in-None.ensures) c.behind.ensures
