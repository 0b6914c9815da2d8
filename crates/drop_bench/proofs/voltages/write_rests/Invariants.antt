use Rattle.std.proofs.Common.{map}
use Rattle.certified_inverse.proofs.Placed.{PlacedTo}
use Rattle.branchwise_test.specs.Sizes.{kept_size}
use Rattle.drop_bench.specs.Drops.{drop_ends}
use Rattle.std.proofs.Common.{ℕ}
use Rattle.drop_bench.proofs.voltages.write_rests.Given as goal

abbrev pub invariant-loop-i : goal.invariant-loop-i
invariant-loop-i g l = PlacedTo (λ (n : ℕ). n) (λ d. kept_size d.rest) (map (drop_ends g.E.Enclosure.ends) l.drops) l.rests l.i
