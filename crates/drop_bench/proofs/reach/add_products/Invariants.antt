use Rattle.std.proofs.Common.{map}
use Rattle.branchwise_test.specs.Reach.{products_from}
use Rattle.drop_bench.proofs.Plain.{TwoTo}
use Rattle.drop_bench.proofs.reach.add_products.Given as goal

abbrev pub invariant-loop-i : goal.invariant-loop-i
invariant-loop-i l = TwoTo (λ edge row. products_from l.scale edge row l.far) l.initial.reached l.reached (map (λ r. r.items) l.transfers) l.i
