use Rattle.std.proofs.Common.{◌≡◌, ◌++◌, ◌∷◌, ◌+◌, [], length, get_or, drop, map, ap, ◌∙◌, sym, subst, arith, rules}
use Rattle.std.specs.Vec.{with_items}
use Rattle.std.proofs.lemmas.List.{with_items_is, places}
use Rattle.std.proofs.lemmas.List.Elements.{All-get_or}
use Rattle.middle_inverse.specs.Points.{rectangle_at}
use Rattle.plain_elimination.specs.Matrix.{nought_rectangle}
use Rattle.middle_inverse.specs.Inverse.{middle_point, one_rectangle, unit_row, with_units}
use Rattle.middle_inverse.proofs.Wide.{wide_set}
use Rattle.middle_inverse.proofs.Written.{written_more, written_all, drop-with_units, length-with_units}
use Rattle.middle_inverse.proofs.writing.write_rows.Goals as goal

pub write_row-requires-clause-twice : goal.write_row-requires-clause-twice
write_row-requires-clause-twice g c =
    let size = c.args.matrix.now.size in
    let wide = All-get_or (λ r. length r.items ≡ size + size) c.loop-i.rows c.loop-i.i c.index-rows-i.result (omega arith) c.loop-i.invariant.wide in
    omega (arith, wide, ap length c.as_mut_slice.ensures.value, c.row.ensures.width)

pub loop-i-preserved : goal.loop-i-preserved
loop-i-preserved g c =
    let s = g.E.Enclosure.SCALE in
    let ys = c.args.matrix.now.rows in
    let n = length ys in
    let size = c.args.matrix.now.size in
    let i = c.loop-i.i in
    let a = get_or c.loop-i.rows i c.index-rows-i.result in
    let is : a ≡ get_or c.loop-i.rows i a = subst (λ v. v ≡ get_or c.loop-i.rows i v) c.index-rows-i.is c.index-rows-i.is in
    let written = with_items_is a c.write_row.new.row (search (rules, places)) in
    let kept : length (with_items a c.write_row.new.row).items ≡ length a.items = omega (arith, ap length written, c.write_row.auto.row, ap length c.as_mut_slice.ensures.value) in
    let count : n ≡ size = c.size-i-end.ensures.rows in
    let units = with_units s n 0 ys in
    let width : length c.row.result.now ≡ n = c.row.ensures.width ∙ sym count in
    let row : map rectangle_at (with_items a c.write_row.new.row).items ≡ map middle_point (get_or ys i []) ++ unit_row (one_rectangle s) nought_rectangle n i =
    ap (map rectangle_at) written ∙ c.write_row.ensures
    ∙ ap (λ from. map middle_point from ++ unit_row (one_rectangle s) nought_rectangle (length c.row.result.now) i) c.row.ensures.value
    ∙ ap (λ m. map middle_point (get_or ys i []) ++ unit_row (one_rectangle s) nought_rectangle m i) width in
    let first : 0 + i ≡ i = omega arith in
    let here = drop-with_units s n 0 i ys (omega arith) ∙ ap (λ j. (map middle_point (get_or ys i []) ++ unit_row (one_rectangle s) nought_rectangle n j) ∷ drop (i + 1) units) first ∙ ap (λ r. r ∷ drop (i + 1) units) (sym row) in
    record {
      value = written_more (λ r. map rectangle_at r.items) units c.loop-i.rows i (with_items a c.write_row.new.row) (omega arith) here c.loop-i.invariant.value;
      wide = wide_set (λ r. length r.items) (size + size) c.loop-i.rows i a (with_items a c.write_row.new.row) (omega arith) is kept c.loop-i.invariant.wide;
    }

pub returns : goal.returns
returns g c =
    let ys = c.args.matrix.now.rows in
    let all = length-with_units g.E.Enclosure.SCALE (length ys) 0 ys in
    record {
      value = written_all (λ r. map rectangle_at r.items) (with_units g.E.Enclosure.SCALE (length ys) 0 ys) c.loop-i.rows c.loop-i.i (omega arith) (omega (arith, all)) c.loop-i.invariant.value;
      wide = c.loop-i.invariant.wide;
    }
