use Rattle.drop_bench.specs.Drops.{drop_ends}
use Rattle.complex_interval.specs.Rect.{rectangle_of}
use Rattle.branchwise_bench.proofs.Counting.{bare_set, raised-either, raised-beyond}
use Rattle.std.proofs.Common.{◌≡◌, get_or, subst, arith}
use Rattle.branchwise_bench.proofs.count.raise_at.Goals as goal

pub returns-then-place-done-clause-value : goal.returns-then-place-done-clause-value
returns-then-place-done-clause-value g c =
    let r = get_or c.args.drops.now c.args.place c.index-drops-place.result in
    let is : r ≡ get_or c.args.drops.now c.args.place r = subst (λ d. d ≡ get_or c.args.drops.now c.args.place d) c.index-drops-place.is c.index-drops-place.is in
    raised-either (drop_ends g.E.Enclosure.ends) g.E.Enclosure.SCALE (rectangle_of g.E.Enclosure.ends c.args.middle) (rectangle_of g.E.Enclosure.ends c.args.rest) (g.E.Enclosure.ends c.args.factor) c.args.drops.now c.args.done c.args.place
    r c.raise.new.self c.raise.result c.if-place-done.true c.requires is c.raise.ensures.value

pub returns-then-place-done-clause-bare : goal.returns-then-place-done-clause-bare
returns-then-place-done-clause-bare g c =
    let few = c.requires in
    let r = get_or c.args.drops.now c.args.place c.index-drops-place.result in
    let is : r ≡ get_or c.args.drops.now c.args.place r = subst (λ d. d ≡ get_or c.args.drops.now c.args.place d) c.index-drops-place.is c.index-drops-place.is in
    bare_set (drop_ends g.E.Enclosure.ends) c.args.drops.now c.args.place r c.raise.new.self (omega (arith, few, c.if-place-done.true)) is c.raise.ensures.bare

pub returns-else-place-done-clause-value : goal.returns-else-place-done-clause-value
returns-else-place-done-clause-value g c =
    raised-beyond (drop_ends g.E.Enclosure.ends) g.E.Enclosure.SCALE (rectangle_of g.E.Enclosure.ends c.args.middle) (rectangle_of g.E.Enclosure.ends c.args.rest) (g.E.Enclosure.ends c.args.factor) c.args.drops.now c.args.done c.args.place c.if-place-done.false
