use Rattle.std.proofs.Common.{map}
use Rattle.certified_inverse.proofs.Placed.{PlacedTo}
use Rattle.branchwise_test.specs.Reach.{edge_from}
use Rattle.drop_bench.specs.Drops.{drop_ends}
use Rattle.std.proofs.Common.{ℕ}
use Rattle.drop_bench.proofs.reach.write_edges.Given as goal

abbrev pub invariant-loop-i : goal.invariant-loop-i
invariant-loop-i g l = PlacedTo (λ (n : ℕ). n) (λ d. edge_from g.E.Enclosure.SCALE 0 d.taps l.nodes) (map (drop_ends g.E.Enclosure.ends) l.drops) l.edges l.i
