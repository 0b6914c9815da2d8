use Rattle.std.proofs.Common.{◌≡◌, ℕ, length, map}
use Rattle.complex_interval.specs.Rect.{rectangle_of}
use Rattle.certified_inverse.proofs.Placed.{PlacedTo}
use Rattle.admittance_box.specs.Intervals.{placed_ends}
use Rattle.branchwise_test.specs.Sizes.{drop_size}
use Rattle.drop_bench.specs.Columns.{columns}
use Rattle.drop_bench.proofs.transfers.write_row.Given as goal

abbrev pub invariant-loop-i : goal.invariant-loop-i
invariant-loop-i g l = record {
  value : PlacedTo (λ (n : ℕ). n) (drop_size g.E.Enclosure.SCALE (map (placed_ends g.E.Enclosure.ends) l.taps)) (columns (length l.initial.row) (map (λ r. map (rectangle_of g.E.Enclosure.ends) r.items) l.voltages)) l.row l.i;
  count : length l.row ≡ length l.initial.row;
}
