use Rattle.std.proofs.Common.{map}
use Rattle.complex_interval.specs.Rect.{rectangle_of}
use Rattle.certified_inverse.proofs.Placed.{PlacedTo}
use Rattle.branchwise_test.specs.Sizes.{kept_size}
use Rattle.std.proofs.Common.{ℕ}
use Rattle.drop_bench.proofs.voltages.write_sizes.Given as goal

abbrev pub invariant-loop-i : goal.invariant-loop-i
invariant-loop-i g l = PlacedTo (λ (n : ℕ). n) (kept_size) (map (rectangle_of g.E.Enclosure.ends) l.values) l.sizes l.i
