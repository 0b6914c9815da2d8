use Rattle.std.proofs.Common.{◌≡◌, Some, [], length, map, get_or, sym, ap, ◌∙◌, subst, arith, rules}
use Rattle.std.specs.Vec.{with_items}
use Rattle.std.proofs.lemmas.List.{with_items_is, places}
use Rattle.complex_interval.specs.Rect.{rectangle_of}
use Rattle.plain_elimination.specs.Matrix.{nought_rectangle}
use Rattle.middle_inverse.specs.Inverse.{one_rectangle, unit_row}
use Rattle.middle_inverse.proofs.Wide.{wide_set}
use Rattle.certified_inverse.specs.Certificate.{unit_rectangles}
use Rattle.certified_inverse.proofs.Placed.{element}
use Rattle.certified_inverse.proofs.Greatest.{unit_rows_left, length-unit_rectangles}
use Rattle.branchwise_test.specs.Sizes.{left_row}
use Rattle.drop_bench.proofs.Pairs.{paired_begins, paired_more, paired_none, paired_all}
use Rattle.drop_bench.proofs.left.write_left.Goals as goal

pub loop-i-init : goal.loop-i-init
loop-i-init g c = record {
  value = paired_begins (λ r. r.items) (left_row g.E.Enclosure.SCALE c.args.matrix.now.rows) (unit_rectangles g.E.Enclosure.SCALE (length c.args.matrix.now.rows)) c.args.inverse.now.rows c.args.rows.now;
  wide = c.requires.wide;
  unit_in = c.requires.unit_in;
  sums_in = c.requires.sums_in;
}

pub returns-in_err-write_left_row-clause-value : goal.returns-in_err-write_left_row-clause-value
returns-in_err-write_left_row-clause-value g c =
    let s = g.E.Enclosure.SCALE in
    let ys = c.args.matrix.now.rows in
    let n = length ys in
    let cs = c.args.inverse.now.rows in
    let i = c.loop-i.i in
    let f = left_row s ys in
    let count : n ≡ c.args.matrix.now.size = c.size-i-end.ensures.rows in
    let row = map (rectangle_of g.E.Enclosure.ends) c.row.result.now in
    let unit = unit_rows_left s n i (omega arith) in
    let here = element cs i [] row (omega (arith, c.requires.square, c.requires.same)) c.row.ensures.value in
    let stated = c.in_err-write_left_row.ensures ∙ ap (λ m. f (unit_row (one_rectangle s) nought_rectangle m i) row) (sym count) in
    let none = paired_none (λ r. r.items) f (unit_rectangles s n) cs c.loop-i.rows i (unit_row (one_rectangle s) nought_rectangle n i) row unit here stated c.loop-i.invariant.value in
    rw c.from_residual.ensures (sym none)

pub loop-i-preserved : goal.loop-i-preserved
loop-i-preserved g c =
    let s = g.E.Enclosure.SCALE in
    let ys = c.args.matrix.now.rows in
    let n = length ys in
    let cs = c.args.inverse.now.rows in
    let i = c.loop-i.i in
    let f = left_row s ys in
    let count : n ≡ c.args.matrix.now.size = c.size-i-end.ensures.rows in
    let row = map (rectangle_of g.E.Enclosure.ends) c.row.result.now in
    let unit = unit_rows_left s n i (omega arith) in
    let here = element cs i [] row (omega (arith, c.requires.square, c.requires.same)) c.row.ensures.value in
    let a = get_or c.loop-i.rows i c.index-rows-i.result in
    let is : a ≡ get_or c.loop-i.rows i a = subst (λ v. v ≡ get_or c.loop-i.rows i v) c.index-rows-i.is c.index-rows-i.is in
    let written = with_items_is a c.write_left_row.new.row (search (rules, places)) in
    let kept : length (with_items a c.write_left_row.new.row).items ≡ length a.items = omega (arith, ap length written, c.write_left_row.auto.row, ap length c.as_mut_slice-row.ensures.value) in
    let stated = c.in_ok-write_left_row.ensures ∙ ap (λ m. f (unit_row (one_rectangle s) nought_rectangle m i) row) (sym count) in
    record {
      value = paired_more (λ r. r.items) f (unit_rectangles s n) cs c.loop-i.rows i (unit_row (one_rectangle s) nought_rectangle n i) row (with_items a c.write_left_row.new.row) (omega arith) unit here (ap Some written ∙ stated) c.loop-i.invariant.value;
      wide = wide_set (λ r. length r.items) c.args.matrix.now.size c.loop-i.rows i a (with_items a c.write_left_row.new.row) (omega arith) is kept c.loop-i.invariant.wide;
      unit_in = omega (arith, c.write_left_row.auto.unit, c.loop-i.invariant.unit_in);
      sums_in = omega (arith, c.write_left_row.auto.sums, c.loop-i.invariant.sums_in);
    }

pub returns-clause-value : goal.returns-clause-value
returns-clause-value g c =
    let s = g.E.Enclosure.SCALE in
    let n = length c.args.matrix.now.rows in
    sym (paired_all (λ r. r.items) (left_row s c.args.matrix.now.rows) (unit_rectangles s n) c.args.inverse.now.rows c.loop-i.rows c.loop-i.i (omega arith) (let e = length-unit_rectangles s n in omega (arith, e, c.size-i-end.ensures.rows)) (omega (arith, c.requires.square, c.requires.same)) c.loop-i.invariant.value)
