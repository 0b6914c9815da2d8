use Rattle.std.proofs.Common.{map}
use Rattle.complex_interval.specs.Rect.{rectangle_of}
use Rattle.certified_inverse.proofs.Placed.{PlacedTo}
use Rattle.branchwise_test.specs.Sizes.{drop_over}
use Rattle.drop_bench.specs.Drops.{drop_ends}
use Rattle.drop_bench.proofs.voltages.write_drops.Given as goal

abbrev pub invariant-loop-i : goal.invariant-loop-i
invariant-loop-i g l = PlacedTo (rectangle_of g.E.Enclosure.ends) (λ d. drop_over g.E.Enclosure.SCALE d.taps (map (rectangle_of g.E.Enclosure.ends) l.voltages)) (map (drop_ends g.E.Enclosure.ends) l.drops) l.values l.i
