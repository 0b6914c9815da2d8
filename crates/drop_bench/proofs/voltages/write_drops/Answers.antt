use Rattle.std.proofs.Common.{◌≡◌, get_or, map, sym, subst, arith}
use Rattle.std.proofs.lemmas.List.{length-map}
use Rattle.complex_interval.specs.Rect.{rectangle_of}
use Rattle.certified_inverse.proofs.Placed.{placed_begins, placed_more, placed_none, placed_all}
use Rattle.plain_elimination.proofs.Sweeps.{read}
use Rattle.branchwise_test.specs.Sizes.{drop_over}
use Rattle.drop_bench.specs.Drops.{drop_ends}
use Rattle.drop_bench.proofs.voltages.write_drops.Goals as goal

pub loop-i-init : goal.loop-i-init
loop-i-init g c = placed_begins (rectangle_of g.E.Enclosure.ends) (λ d. drop_over g.E.Enclosure.SCALE d.taps (map (rectangle_of g.E.Enclosure.ends) c.args.voltages.now)) (map (drop_ends g.E.Enclosure.ends) c.args.drops.now) c.args.values.now

pub returns-in_err-values : goal.returns-in_err-values
returns-in_err-values g c =
    let item = get_or c.args.drops.now c.loop-i.i c.index-drops-i.result in
    let is : item ≡ get_or c.args.drops.now c.loop-i.i item = subst (λ d. d ≡ get_or c.args.drops.now c.loop-i.i d) c.index-drops-i.is c.index-drops-i.is in
    let here = read (drop_ends g.E.Enclosure.ends) c.args.drops.now c.loop-i.i item (omega arith) is in
    let none = placed_none (rectangle_of g.E.Enclosure.ends) (λ d. drop_over g.E.Enclosure.SCALE d.taps (map (rectangle_of g.E.Enclosure.ends) c.args.voltages.now)) (map (drop_ends g.E.Enclosure.ends) c.args.drops.now) c.loop-i.values c.loop-i.i ((drop_ends g.E.Enclosure.ends) item) here (rw c.as_slice.ensures.value at c.in_err-values.ensures) c.loop-i.invariant in
    rw c.from_residual.ensures (sym none)

pub loop-i-preserved : goal.loop-i-preserved
loop-i-preserved g c =
    let item = get_or c.args.drops.now c.loop-i.i c.index-drops-i.result in
    let is : item ≡ get_or c.args.drops.now c.loop-i.i item = subst (λ d. d ≡ get_or c.args.drops.now c.loop-i.i d) c.index-drops-i.is c.index-drops-i.is in
    let here = read (drop_ends g.E.Enclosure.ends) c.args.drops.now c.loop-i.i item (omega arith) is in
    placed_more (rectangle_of g.E.Enclosure.ends) (λ d. drop_over g.E.Enclosure.SCALE d.taps (map (rectangle_of g.E.Enclosure.ends) c.args.voltages.now)) (map (drop_ends g.E.Enclosure.ends) c.args.drops.now) c.loop-i.values c.loop-i.i ((drop_ends g.E.Enclosure.ends) item) c.in_ok-values.field-0 (omega arith) here (rw c.as_slice.ensures.value at c.in_ok-values.ensures) c.loop-i.invariant

pub returns : goal.returns
returns g c = sym (placed_all (rectangle_of g.E.Enclosure.ends) (λ d. drop_over g.E.Enclosure.SCALE d.taps (map (rectangle_of g.E.Enclosure.ends) c.args.voltages.now)) (map (drop_ends g.E.Enclosure.ends) c.args.drops.now) c.loop-i.values c.loop-i.i (omega arith) (omega (arith, length-map c.args.drops.now (drop_ends g.E.Enclosure.ends))) c.loop-i.invariant)
