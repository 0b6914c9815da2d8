use Rattle.std.proofs.Common.{◌≡◌, drop}
use Rattle.branchwise_test.specs.Reach.{products_from}
use Rattle.drop_bench.proofs.sums.products_from.Given as goal

abbrev pub invariant-loop-i : goal.invariant-loop-i
invariant-loop-i l = products_from l.scale l.sum (drop l.i l.factors) (drop l.i l.numbers) ≡ products_from l.scale l.fn.first l.factors l.numbers
