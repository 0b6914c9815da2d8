use Rattle.std.proofs.Common.{◌≡◌, length}
use Rattle.std.specs.List.{All}
use Rattle.certified_inverse.specs.Certificate.{unit_rectangles}
use Rattle.branchwise_test.specs.Sizes.{left_row}
use Rattle.drop_bench.proofs.Pairs.{PairedTo}
use Rattle.drop_bench.proofs.left.write_left.Given as goal

abbrev pub invariant-loop-i : goal.invariant-loop-i
invariant-loop-i g l = record {
  value : PairedTo (λ r. r.items) (left_row g.E.Enclosure.SCALE l.matrix.rows) (unit_rectangles g.E.Enclosure.SCALE (length l.matrix.rows)) l.inverse.rows l.rows l.i;
  wide : All (λ r. length r.items ≡ l.matrix.size) l.rows;
  unit_in : length l.unit ≡ l.matrix.size;
  sums_in : length l.sums ≡ l.matrix.size;
}
