use Rattle.std.proofs.Common.{ℕ, length, map, sym, arith, refl}
use Rattle.std.proofs.lemmas.List.{length-set}
use Rattle.complex_interval.specs.Rect.{rectangle_of}
use Rattle.certified_inverse.proofs.Placed.{placed_begins, placed_more, placed_none}
use Rattle.admittance_box.specs.Intervals.{placed_ends}
use Rattle.branchwise_test.specs.Sizes.{drop_size}
use Rattle.drop_bench.specs.Columns.{column_of, columns}
use Rattle.drop_bench.proofs.Columns.{column_next, columns_count, reaches}
use Rattle.drop_bench.proofs.Plain.{all_written}
use Rattle.drop_bench.proofs.transfers.write_row.Goals as goal

pub loop-i-init : goal.loop-i-init
loop-i-init g c = record {
  value = placed_begins (λ (n : ℕ). n) (drop_size g.E.Enclosure.SCALE (map (placed_ends g.E.Enclosure.ends) c.args.taps.now)) (columns (length c.args.row.now) (map (λ r. map (rectangle_of g.E.Enclosure.ends) r.items) c.args.voltages.now)) c.args.row.now;
  count = refl;
}

pub drop_size-requires : goal.drop_size-requires
drop_size-requires g c = reaches (λ r. length r.items) (length c.args.row.now) c.loop-i.i c.args.voltages.now (omega (arith, c.loop-i.invariant.count)) c.requires

pub returns-in_err-row : goal.returns-in_err-row
returns-in_err-row g c =
    let n = length c.args.row.now in
    let rows = map (λ r. map (rectangle_of g.E.Enclosure.ends) r.items) c.args.voltages.now in
    let i = c.loop-i.i in
    let here = column_next n i rows (omega (arith, c.loop-i.invariant.count)) in
    let none = placed_none (λ (n : ℕ). n) (drop_size g.E.Enclosure.SCALE (map (placed_ends g.E.Enclosure.ends) c.args.taps.now)) (columns n rows) c.loop-i.row i (column_of i rows) here c.in_err-row.ensures c.loop-i.invariant.value in
    rw c.from_residual.ensures (sym none)

pub loop-i-preserved : goal.loop-i-preserved
loop-i-preserved g c =
    let n = length c.args.row.now in
    let rows = map (λ r. map (rectangle_of g.E.Enclosure.ends) r.items) c.args.voltages.now in
    let i = c.loop-i.i in
    let here = column_next n i rows (omega (arith, c.loop-i.invariant.count)) in
    let count = length-set c.loop-i.row i c.in_ok-row.field-0 in
    record {
      value = placed_more (λ (n : ℕ). n) (drop_size g.E.Enclosure.SCALE (map (placed_ends g.E.Enclosure.ends) c.args.taps.now)) (columns n rows) c.loop-i.row i (column_of i rows) c.in_ok-row.field-0 (omega arith) here c.in_ok-row.ensures c.loop-i.invariant.value;
      count = omega (arith, count, c.loop-i.invariant.count);
    }

pub returns : goal.returns
returns g c =
    let n = length c.args.row.now in
    let rows = map (λ r. map (rectangle_of g.E.Enclosure.ends) r.items) c.args.voltages.now in
    let count = columns_count n rows in
    sym (all_written (drop_size g.E.Enclosure.SCALE (map (placed_ends g.E.Enclosure.ends) c.args.taps.now)) (columns n rows) c.loop-i.row c.loop-i.i (omega arith) (omega (arith, count, c.loop-i.invariant.count)) c.loop-i.invariant.value)
