use Rattle.std.proofs.Common.{◌≡◌, Some, length, map, get_or, sym, ap, ◌∙◌, subst, arith, rules}
use Rattle.std.specs.Vec.{with_items}
use Rattle.std.proofs.lemmas.List.{with_items_is, places}
use Rattle.middle_inverse.specs.Points.{rectangle_at}
use Rattle.middle_inverse.specs.Inverse.{cleared_row}
use Rattle.middle_inverse.proofs.Each.{each_more, each_none}
use Rattle.middle_inverse.proofs.Wide.{wide_set}
use Rattle.middle_inverse.proofs.rows.clear_rows.Goals as goal

pub returns-in_err-clear_row : goal.returns-in_err-clear_row
returns-in_err-clear_row g c =
    let rectangle = rectangle_at in
    let a = get_or c.loop-i.rows c.loop-i.i c.index-rows-i.result in
    let is : a ≡ get_or c.loop-i.rows c.loop-i.i a = subst (λ v. v ≡ get_or c.loop-i.rows c.loop-i.i v) c.index-rows-i.is c.index-rows-i.is in
    let written = with_items_is a c.clear_row.new.row (search (rules, places)) in
    let kept : length (with_items a c.clear_row.new.row).items ≡ length a.items = omega (arith, ap length written, c.clear_row.auto.row, ap length c.as_mut_slice.ensures.value) in
    let none = each_none (λ r. map rectangle r.items) (cleared_row g.E.Enclosure.SCALE c.args.column (map rectangle c.args.first.now)) c.args.rows.now c.loop-i.rows c.loop-i.i a (omega arith) is (rw c.as_mut_slice.ensures.value at c.in_err-clear_row.ensures) c.loop-i.invariant.value in
    record {
      value = rw c.from_residual.ensures (sym none);
      wide = λ w all. wide_set (λ r. length r.items) w c.loop-i.rows c.loop-i.i a (with_items a c.clear_row.new.row) (omega arith) is kept (c.loop-i.invariant.wide w all);
    }

pub loop-i-preserved : goal.loop-i-preserved
loop-i-preserved g c =
    let rectangle = rectangle_at in
    let a = get_or c.loop-i.rows c.loop-i.i c.index-rows-i.result in
    let is : a ≡ get_or c.loop-i.rows c.loop-i.i a = subst (λ v. v ≡ get_or c.loop-i.rows c.loop-i.i v) c.index-rows-i.is c.index-rows-i.is in
    let written = with_items_is a c.clear_row.new.row (search (rules, places)) in
    let kept : length (with_items a c.clear_row.new.row).items ≡ length a.items = omega (arith, ap length written, c.clear_row.auto.row, ap length c.as_mut_slice.ensures.value) in
    record {
      value =
          each_more (λ r. map rectangle r.items) (cleared_row g.E.Enclosure.SCALE c.args.column (map rectangle c.args.first.now)) c.args.rows.now c.loop-i.rows c.loop-i.i a
          (with_items a c.clear_row.new.row) (omega arith) is (ap (λ xs. Some (map rectangle xs)) written ∙ (rw c.as_mut_slice.ensures.value at c.in_ok-clear_row.ensures)) c.loop-i.invariant.value;
      wide = λ w all. wide_set (λ r. length r.items) w c.loop-i.rows c.loop-i.i a (with_items a c.clear_row.new.row) (omega arith) is kept (c.loop-i.invariant.wide w all);
    }
