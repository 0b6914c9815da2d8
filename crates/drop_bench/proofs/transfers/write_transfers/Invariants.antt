use Rattle.std.proofs.Common.{◌≡◌, length, map}
use Rattle.std.specs.List.{All}
use Rattle.complex_interval.specs.Rect.{rectangle_of}
use Rattle.certified_inverse.proofs.Placed.{PlacedTo}
use Rattle.branchwise_test.specs.Sizes.{drop_sizes}
use Rattle.drop_bench.specs.Columns.{columns}
use Rattle.drop_bench.specs.Drops.{drop_ends}
use Rattle.drop_bench.proofs.transfers.write_transfers.Given as goal

abbrev pub invariant-loop-i : goal.invariant-loop-i
invariant-loop-i g l = record {
  value : PlacedTo (λ r. r.items) (λ d. drop_sizes g.E.Enclosure.SCALE d.taps (columns (length l.drops) (map (λ r. map (rectangle_of g.E.Enclosure.ends) r.items) l.voltages))) (map (drop_ends g.E.Enclosure.ends) l.drops) l.rows l.i;
  wide : All (λ r. length r.items ≡ length l.drops) l.rows;
}
