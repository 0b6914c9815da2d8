use Rattle.std.proofs.Common.{◌≡◌, ◌∙◌, length, map, sym, ap, arith}
use Rattle.std.specs.Option.{option_map}
use Rattle.std.specs.Vec.{with_items}
use Rattle.std.proofs.lemmas.List.{with_items_is}
use Rattle.complex_interval.specs.Rect.{rectangle_of}
use Rattle.middle_inverse.specs.Lists.{each}
use Rattle.branchwise_test.specs.Sizes.{drop_over}
use Rattle.branchwise_test.specs.Reach.{contraction}
use Rattle.drop_bench.specs.Bounds.{bounds_of}
use Rattle.drop_bench.specs.Drops.{drop_ends}
use Rattle.drop_bench.specs.Near.{contraction_of, found_by}
use Rattle.drop_bench.proofs.Founds.{option_mapped, found_done, no_drops, no_sizes}
use Rattle.drop_bench.proofs.found.write_found.Goals as goal

pub returns-in_err-write_drops-clause-value : goal.returns-in_err-write_drops-clause-value
returns-in_err-write_drops-clause-value g c =
    let s = g.E.Enclosure.SCALE in
    let rows = map (λ r. map (rectangle_of g.E.Enclosure.ends) r.items) c.write_all_voltages.new.rows in
    let drops = map (drop_ends g.E.Enclosure.ends) c.args.drops.now in
    let stated = c.in_err-write_drops.ensures ∙ ap (λ x. each (λ d. drop_over s d.taps x) drops) c.copy_column.ensures in
    let none = no_drops s c.args.driven (length c.args.drops.now) drops c.args.matrix.now.rows c.args.inverse.now.rows rows (bounds_of c.write_bounds.new.sizes) c.requires.driven_in c.in_ok-write_all_voltages.ensures.value c.in_ok-write_bounds.ensures.value stated in
    rw c.from_residual-in_err-write_drops.ensures (sym none)

pub returns-in_err-write_sizes-clause-value : goal.returns-in_err-write_sizes-clause-value
returns-in_err-write_sizes-clause-value g c =
    let s = g.E.Enclosure.SCALE in
    let rows = map (λ r. map (rectangle_of g.E.Enclosure.ends) r.items) c.write_all_voltages.new.rows in
    let drops = map (drop_ends g.E.Enclosure.ends) c.args.drops.now in
    let stated = c.in_ok-write_drops.ensures ∙ ap (λ x. each (λ d. drop_over s d.taps x) drops) c.copy_column.ensures in
    let none = no_sizes s c.args.driven (length c.args.drops.now) drops c.args.matrix.now.rows c.args.inverse.now.rows rows (bounds_of c.write_bounds.new.sizes) c.requires.driven_in c.in_ok-write_all_voltages.ensures.value c.in_ok-write_bounds.ensures.value
    (map (rectangle_of g.E.Enclosure.ends) c.write_drops.new.values) stated c.in_err-write_sizes.ensures in
    rw c.from_residual-in_err-write_sizes.ensures (sym none)

pub returns-clause-value : goal.returns-clause-value
returns-clause-value g c =
    let s = g.E.Enclosure.SCALE in
    let n = length c.args.drops.now in
    let rows = map (λ r. map (rectangle_of g.E.Enclosure.ends) r.items) c.write_all_voltages.new.rows in
    let drops = map (drop_ends g.E.Enclosure.ends) c.args.drops.now in
    let xs = map (rectangle_of g.E.Enclosure.ends) c.write_drops.new.values in
    let stated = c.in_ok-write_drops.ensures ∙ ap (λ x. each (λ d. drop_over s d.taps x) drops) c.copy_column.ensures in
    let written : (with_items c.args.room.now.xs c.write_sizes.new.sizes).items ≡ c.write_sizes.new.sizes = with_items_is c.args.room.now.xs c.write_sizes.new.sizes (omega (arith, c.write_sizes.auto.sizes, ap length c.as_mut_slice.ensures.value, c.args.room.now.xs.ok.0)) in
    let last = c.contraction.ensures.value ∙ ap (λ x. contraction s c.args.driven (bounds_of c.write_bounds.new.sizes) drops x) written in
    let done = found_done s c.args.driven n drops c.args.matrix.now.rows c.args.inverse.now.rows rows (bounds_of c.write_bounds.new.sizes) c.requires.driven_in c.in_ok-write_all_voltages.ensures.value c.in_ok-write_bounds.ensures.value
    xs c.write_sizes.new.sizes (option_map contraction_of c.contraction.result) stated c.in_ok-write_sizes.ensures last in
    option_mapped (found_by n rows c.args.driven xs) contraction_of c.contraction.result ∙ done
