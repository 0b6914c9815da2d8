use Rattle.std.proofs.Common.{◌≡◌, length, map}
use Rattle.std.specs.List.{All}
use Rattle.complex_interval.specs.Rect.{rectangle_of}
use Rattle.middle_inverse.specs.Lists.{each}
use Rattle.certified_inverse.proofs.Placed.{PlacedTo}
use Rattle.branchwise_test.specs.Sizes.{drop_over}
use Rattle.drop_bench.specs.Drops.{drop_ends}
use Rattle.drop_bench.proofs.voltages.write_all_voltages.Given as goal

abbrev pub invariant-loop-i : goal.invariant-loop-i
invariant-loop-i g l = record {
  value : PlacedTo (λ r. map (rectangle_of g.E.Enclosure.ends) r.items) (λ row. each (λ d. drop_over g.E.Enclosure.SCALE d.taps row) (map (drop_ends g.E.Enclosure.ends) l.drops)) l.inverse.rows l.rows l.i;
  wide : All (λ r. length r.items ≡ length l.drops) l.rows;
}
