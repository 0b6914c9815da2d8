use Rattle.std.proofs.Common.{◌≡◌, ◌+◌, ◌-◌, ◌∷◌, length, get_or, take, drop, map, ap, ◌∙◌, sym, subst, arith, rules}
use Rattle.std.specs.Vec.{with_items}
use Rattle.std.proofs.lemmas.List.{with_items_is, places, take_all, length-drop, length-map, drop-map}
use Rattle.std.proofs.lemmas.List.Elements.{All-get_or}
use Rattle.complex_interval.specs.Rect.{rectangle_of}
use Rattle.middle_inverse.specs.Points.{rectangle_at}
use Rattle.middle_inverse.proofs.Each.{read_twice}
use Rattle.middle_inverse.proofs.Wide.{wide_set}
use Rattle.middle_inverse.proofs.Written.{written_more, written_all}
use Rattle.middle_inverse.proofs.writing.copy_rows.Goals as goal

pub copy_row-requires : goal.copy_row-requires
copy_row-requires g c =
    let size = c.args.size in
    let whole = c.as_slice-whole.result.now in
    let wide = All-get_or (λ r. length r.items ≡ size) c.loop-i.rows c.loop-i.i c.index-rows-i.result (omega arith) c.loop-i.invariant.wide in
    let twice = All-get_or (λ r. length r.items ≡ size + size) c.args.from.now c.loop-i.i c.index-from-i.result (omega arith) c.requires.twice in
    let rest : take (length whole - size) (drop size whole) ≡ drop size whole = take_all (length whole - size) (drop size whole) (omega (arith, length-drop size whole)) in
    omega (arith, wide, twice, ap length rest, length-drop size whole, ap length c.as_mut_slice.ensures.value, ap length c.as_slice-whole.ensures.value, ap (λ r. length r.items) c.index-from-i.is)

pub loop-i-preserved : goal.loop-i-preserved
loop-i-preserved g c =
    let rectangle = rectangle_of g.E.Enclosure.ends in
    let size = c.args.size in
    let i = c.loop-i.i in
    let all = map (λ row. drop size row) (map (λ r. map rectangle_at r.items) c.args.from.now) in
    let a = get_or c.loop-i.rows i c.index-rows-i.result in
    let is : a ≡ get_or c.loop-i.rows i a = subst (λ v. v ≡ get_or c.loop-i.rows i v) c.index-rows-i.is c.index-rows-i.is in
    let written = with_items_is a c.copy_row.new.row (search (rules, places)) in
    let kept : length (with_items a c.copy_row.new.row).items ≡ length a.items = omega (arith, ap length written, c.copy_row.auto.row, ap length c.as_mut_slice.ensures.value) in
    let whole = c.as_slice-whole.result.now in
    let rest : take (length whole - size) (drop size whole) ≡ drop size whole = take_all (length whole - size) (drop size whole) (omega (arith, length-drop size whole)) in
    let row : map rectangle (with_items a c.copy_row.new.row).items ≡ drop size (map rectangle_at c.index-from-i.result.items) =
    ap (map rectangle) written ∙ c.copy_row.ensures ∙ ap (map rectangle_at) rest ∙ sym (drop-map rectangle_at size whole) ∙ ap (λ xs. drop size (map rectangle_at xs)) c.as_slice-whole.ensures.value in
    let here = read_twice (λ row. drop size row) (λ r. map rectangle_at r.items) c.args.from.now i c.index-from-i.result (omega arith) c.index-from-i.is in
    record {
      value = written_more (λ r. map rectangle r.items) all c.loop-i.rows i (with_items a c.copy_row.new.row) (omega arith) (here ∙ ap (λ x. x ∷ drop (i + 1) all) (sym row)) c.loop-i.invariant.value;
      wide = wide_set (λ r. length r.items) size c.loop-i.rows i a (with_items a c.copy_row.new.row) (omega arith) is kept c.loop-i.invariant.wide;
    }

pub returns : goal.returns
returns g c =
    let rows = map (λ r. map rectangle_at r.items) c.args.from.now in
    let all = length-map rows (λ row. drop c.args.size row) ∙ length-map c.args.from.now (λ r. map rectangle_at r.items) in
    record {
      value = written_all (λ r. map (rectangle_of g.E.Enclosure.ends) r.items) (map (λ row. drop c.args.size row) rows) c.loop-i.rows c.loop-i.i (omega arith) (omega (arith, all)) c.loop-i.invariant.value;
      wide = c.loop-i.invariant.wide;
    }
