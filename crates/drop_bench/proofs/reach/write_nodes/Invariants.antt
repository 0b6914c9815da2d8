use Rattle.std.proofs.Common.{ℕ, map}
use Rattle.certified_inverse.proofs.Placed.{PlacedTo}
use Rattle.branchwise_test.specs.Reach.{products_from}
use Rattle.drop_bench.proofs.reach.write_nodes.Given as goal

abbrev pub invariant-loop-i : goal.invariant-loop-i
invariant-loop-i l = PlacedTo (λ (n : ℕ). n) (λ row. products_from l.scale 0 row l.numbers) (map (λ r. r.items) l.left) l.nodes l.i
