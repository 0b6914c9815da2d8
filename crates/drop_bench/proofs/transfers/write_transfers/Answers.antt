use Rattle.std.proofs.Common.{◌≡◌, Some, length, map, get_or, sym, ap, ◌∙◌, subst, arith, rules}
use Rattle.std.specs.List.{All}
use Rattle.std.specs.Vec.{with_items}
use Rattle.std.proofs.lemmas.List.{with_items_is, places, length-map}
use Rattle.std.proofs.lemmas.List.Elements.{All-get_or}
use Rattle.complex_interval.specs.Rect.{rectangle_of}
use Rattle.plain_elimination.proofs.Sweeps.{read}
use Rattle.middle_inverse.proofs.Wide.{wide_set}
use Rattle.certified_inverse.proofs.Placed.{placed_begins, placed_more, placed_none, placed_all}
use Rattle.admittance_box.specs.Intervals.{placed_ends}
use Rattle.branchwise_test.specs.Sizes.{drop_sizes}
use Rattle.drop_bench.specs.Columns.{columns}
use Rattle.drop_bench.specs.Drops.{drop_ends}
use Rattle.drop_bench.proofs.transfers.write_transfers.Goals as goal

pub loop-i-init : goal.loop-i-init
loop-i-init g c = record {
  value = placed_begins (λ r. r.items) (λ d. drop_sizes g.E.Enclosure.SCALE d.taps (columns (length c.args.drops.now) (map (λ r. map (rectangle_of g.E.Enclosure.ends) r.items) c.args.voltages.now))) (map (drop_ends g.E.Enclosure.ends) c.args.drops.now) c.args.rows.now;
  wide = c.requires.wide;
}

pub write_row-requires : goal.write_row-requires
write_row-requires g c =
    let w = All-get_or (λ r. length r.items ≡ length c.args.drops.now) c.loop-i.rows c.loop-i.i c.index-rows-i.result (omega arith) c.loop-i.invariant.wide in
    let size : length c.args.drops.now ≡ length c.as_mut_slice.result.now = omega (arith, ap length c.as_mut_slice.ensures.value, w) in
    subst (λ n. All (λ r. length r.items ≡ n) c.args.voltages.now) size c.requires.voltages_wide

pub returns-in_err-write_row : goal.returns-in_err-write_row
returns-in_err-write_row g c =
    let a = get_or c.loop-i.rows c.loop-i.i c.index-rows-i.result in
    let is : a ≡ get_or c.loop-i.rows c.loop-i.i a = subst (λ v. v ≡ get_or c.loop-i.rows c.loop-i.i v) c.index-rows-i.is c.index-rows-i.is in
    let item = get_or c.args.drops.now c.loop-i.i c.index-drops-i.result in
    let item_is : item ≡ get_or c.args.drops.now c.loop-i.i item = subst (λ v. v ≡ get_or c.args.drops.now c.loop-i.i v) c.index-drops-i.is c.index-drops-i.is in
    let here = read (drop_ends g.E.Enclosure.ends) c.args.drops.now c.loop-i.i item (omega arith) item_is in
    let written = with_items_is a c.write_row.new.row (search (rules, places)) in
    let kept : length (with_items a c.write_row.new.row).items ≡ length a.items = omega (arith, ap length written, c.write_row.auto.row, ap length c.as_mut_slice.ensures.value) in
    let w = All-get_or (λ r. length r.items ≡ length c.args.drops.now) c.loop-i.rows c.loop-i.i c.index-rows-i.result (omega arith) c.loop-i.invariant.wide in
    let size : length c.as_mut_slice.result.now ≡ length c.args.drops.now = omega (arith, ap length c.as_mut_slice.ensures.value, w) in
    let by_size = ap (λ n. drop_sizes g.E.Enclosure.SCALE (map (placed_ends g.E.Enclosure.ends) item.taps.items) (columns n (map (λ r. map (rectangle_of g.E.Enclosure.ends) r.items) c.args.voltages.now))) size in
    let none = placed_none (λ r. r.items) (λ d. drop_sizes g.E.Enclosure.SCALE d.taps (columns (length c.args.drops.now) (map (λ r. map (rectangle_of g.E.Enclosure.ends) r.items) c.args.voltages.now))) (map (drop_ends g.E.Enclosure.ends) c.args.drops.now) c.loop-i.rows c.loop-i.i
    (drop_ends g.E.Enclosure.ends item) here ((rw c.as_slice.ensures.value at c.in_err-write_row.ensures) ∙ by_size) c.loop-i.invariant.value in
    record {
      value = rw c.from_residual.ensures (sym none);
      wide = wide_set (λ r. length r.items) (length c.args.drops.now) c.loop-i.rows c.loop-i.i a (with_items a c.write_row.new.row) (omega arith) is kept c.loop-i.invariant.wide;
    }

pub loop-i-preserved : goal.loop-i-preserved
loop-i-preserved g c =
    let a = get_or c.loop-i.rows c.loop-i.i c.index-rows-i.result in
    let is : a ≡ get_or c.loop-i.rows c.loop-i.i a = subst (λ v. v ≡ get_or c.loop-i.rows c.loop-i.i v) c.index-rows-i.is c.index-rows-i.is in
    let item = get_or c.args.drops.now c.loop-i.i c.index-drops-i.result in
    let item_is : item ≡ get_or c.args.drops.now c.loop-i.i item = subst (λ v. v ≡ get_or c.args.drops.now c.loop-i.i v) c.index-drops-i.is c.index-drops-i.is in
    let here = read (drop_ends g.E.Enclosure.ends) c.args.drops.now c.loop-i.i item (omega arith) item_is in
    let written = with_items_is a c.write_row.new.row (search (rules, places)) in
    let kept : length (with_items a c.write_row.new.row).items ≡ length a.items = omega (arith, ap length written, c.write_row.auto.row, ap length c.as_mut_slice.ensures.value) in
    let w = All-get_or (λ r. length r.items ≡ length c.args.drops.now) c.loop-i.rows c.loop-i.i c.index-rows-i.result (omega arith) c.loop-i.invariant.wide in
    let size : length c.as_mut_slice.result.now ≡ length c.args.drops.now = omega (arith, ap length c.as_mut_slice.ensures.value, w) in
    let by_size = ap (λ n. drop_sizes g.E.Enclosure.SCALE (map (placed_ends g.E.Enclosure.ends) item.taps.items) (columns n (map (λ r. map (rectangle_of g.E.Enclosure.ends) r.items) c.args.voltages.now))) size in
    record {
      value =
          placed_more (λ r. r.items) (λ d. drop_sizes g.E.Enclosure.SCALE d.taps (columns (length c.args.drops.now) (map (λ r. map (rectangle_of g.E.Enclosure.ends) r.items) c.args.voltages.now))) (map (drop_ends g.E.Enclosure.ends) c.args.drops.now) c.loop-i.rows c.loop-i.i
          (drop_ends g.E.Enclosure.ends item) (with_items a c.write_row.new.row) (omega arith) here (ap Some written ∙ ((rw c.as_slice.ensures.value at c.in_ok-write_row.ensures) ∙ by_size)) c.loop-i.invariant.value;
      wide = wide_set (λ r. length r.items) (length c.args.drops.now) c.loop-i.rows c.loop-i.i a (with_items a c.write_row.new.row) (omega arith) is kept c.loop-i.invariant.wide;
    }

pub returns-clause-value : goal.returns-clause-value
returns-clause-value g c =
    sym (placed_all (λ r. r.items) (λ d. drop_sizes g.E.Enclosure.SCALE d.taps (columns (length c.args.drops.now) (map (λ r. map (rectangle_of g.E.Enclosure.ends) r.items) c.args.voltages.now))) (map (drop_ends g.E.Enclosure.ends) c.args.drops.now) c.loop-i.rows c.loop-i.i
    (omega arith) (omega (arith, length-map c.args.drops.now (drop_ends g.E.Enclosure.ends))) c.loop-i.invariant.value)
