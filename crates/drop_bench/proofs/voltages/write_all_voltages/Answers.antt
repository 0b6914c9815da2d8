use Rattle.std.proofs.Common.{◌≡◌, List, Option, [], Some, length, map, get_or, sym, ap, ◌∙◌, subst, arith, rules}
use Rattle.std.specs.Option.{option_map}
use Rattle.std.specs.Vec.{with_items}
use Rattle.std.proofs.lemmas.List.{with_items_is, places, length-map}
use Rattle.std.proofs.lemmas.List.Elements.{All-get_or}
use Rattle.complex_interval.specs.Rect.{rectangle_of}
use Rattle.complex_interval.specs.Rectangles.{Rectangle}
use Rattle.middle_inverse.specs.Lists.{each}
use Rattle.middle_inverse.proofs.Wide.{wide_set}
use Rattle.certified_inverse.proofs.Placed.{element, placed_begins, placed_more, placed_none, placed_all}
use Rattle.branchwise_test.specs.Sizes.{drop_over}
use Rattle.drop_bench.specs.Columns.{columns}
use Rattle.drop_bench.specs.Drops.{drop_ends}
use Rattle.drop_bench.proofs.Columns.{turned}
use Rattle.drop_bench.proofs.voltages.write_all_voltages.Goals as goal

pub loop-i-init : goal.loop-i-init
loop-i-init g c = record {
  value = placed_begins (λ r. map (rectangle_of g.E.Enclosure.ends) r.items) (λ row. each (λ d. drop_over g.E.Enclosure.SCALE d.taps row) (map (drop_ends g.E.Enclosure.ends) c.args.drops.now)) c.args.inverse.now.rows c.args.rows.now;
  wide = c.requires.wide;
}

pub write_drops-requires : goal.write_drops-requires
write_drops-requires g c =
    let w = All-get_or (λ r. length r.items ≡ length c.args.drops.now) c.loop-i.rows c.loop-i.i c.index-rows-i.result (omega arith) c.loop-i.invariant.wide in
    omega (arith, ap length c.as_mut_slice.ensures.value, w)

pub returns-in_err-write_drops : goal.returns-in_err-write_drops
returns-in_err-write_drops g c =
    let s = g.E.Enclosure.SCALE in
    let rectangle = rectangle_of g.E.Enclosure.ends in
    let drops = map (drop_ends g.E.Enclosure.ends) c.args.drops.now in
    let f : List Rectangle → Option (List Rectangle) = λ row. each (λ d. drop_over s d.taps row) drops in
    let cs = c.args.inverse.now.rows in
    let i = c.loop-i.i in
    let a = get_or c.loop-i.rows i c.index-rows-i.result in
    let is : a ≡ get_or c.loop-i.rows i a = subst (λ v. v ≡ get_or c.loop-i.rows i v) c.index-rows-i.is c.index-rows-i.is in
    let here = element cs i [] (map rectangle c.row.result.now) (omega (arith, c.size-i-end.ensures.rows)) c.row.ensures.value in
    let written = with_items_is a c.write_drops.new.values (search (rules, places)) in
    let kept : length (with_items a c.write_drops.new.values).items ≡ length a.items = omega (arith, ap length written, c.write_drops.auto.values, ap length c.as_mut_slice.ensures.value) in
    let none = placed_none (λ r. map rectangle r.items) f cs c.loop-i.rows i (map rectangle c.row.result.now) here c.in_err-write_drops.ensures c.loop-i.invariant.value in
    let count = ap (λ n. option_map (columns n) (each f cs)) (length-map c.args.drops.now (drop_ends g.E.Enclosure.ends)) in
    record {
      value = rw c.from_residual.ensures (ap (option_map (columns (length c.args.drops.now))) (sym none) ∙ sym count ∙ sym (turned (λ d row. drop_over s d.taps row) drops cs));
      wide = wide_set (λ r. length r.items) (length c.args.drops.now) c.loop-i.rows i a (with_items a c.write_drops.new.values) (omega arith) is kept c.loop-i.invariant.wide;
    }

pub loop-i-preserved : goal.loop-i-preserved
loop-i-preserved g c =
    let s = g.E.Enclosure.SCALE in
    let rectangle = rectangle_of g.E.Enclosure.ends in
    let f : List Rectangle → Option (List Rectangle) = λ row. each (λ d. drop_over s d.taps row) (map (drop_ends g.E.Enclosure.ends) c.args.drops.now) in
    let cs = c.args.inverse.now.rows in
    let i = c.loop-i.i in
    let a = get_or c.loop-i.rows i c.index-rows-i.result in
    let is : a ≡ get_or c.loop-i.rows i a = subst (λ v. v ≡ get_or c.loop-i.rows i v) c.index-rows-i.is c.index-rows-i.is in
    let here = element cs i [] (map rectangle c.row.result.now) (omega (arith, c.size-i-end.ensures.rows)) c.row.ensures.value in
    let written = with_items_is a c.write_drops.new.values (search (rules, places)) in
    let kept : length (with_items a c.write_drops.new.values).items ≡ length a.items = omega (arith, ap length written, c.write_drops.auto.values, ap length c.as_mut_slice.ensures.value) in
    record {
      value = placed_more (λ r. map rectangle r.items) f cs c.loop-i.rows i (map rectangle c.row.result.now) (with_items a c.write_drops.new.values) (omega arith) here (ap (λ xs. Some (map rectangle xs)) written ∙ c.in_ok-write_drops.ensures) c.loop-i.invariant.value;
      wide = wide_set (λ r. length r.items) (length c.args.drops.now) c.loop-i.rows i a (with_items a c.write_drops.new.values) (omega arith) is kept c.loop-i.invariant.wide;
    }

pub returns-clause-value : goal.returns-clause-value
returns-clause-value g c =
    let s = g.E.Enclosure.SCALE in
    let rectangle = rectangle_of g.E.Enclosure.ends in
    let drops = map (drop_ends g.E.Enclosure.ends) c.args.drops.now in
    let f : List Rectangle → Option (List Rectangle) = λ row. each (λ d. drop_over s d.taps row) drops in
    let cs = c.args.inverse.now.rows in
    let all = placed_all (λ r. map rectangle r.items) f cs c.loop-i.rows c.loop-i.i (omega arith) (omega (arith, c.size-i-end.ensures.rows)) c.loop-i.invariant.value in
    let count = ap (λ n. option_map (columns n) (each f cs)) (length-map c.args.drops.now (drop_ends g.E.Enclosure.ends)) in
    ap (option_map (columns (length c.args.drops.now))) (sym all) ∙ sym count ∙ sym (turned (λ d row. drop_over s d.taps row) drops cs)
