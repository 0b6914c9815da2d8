use Rattle.std.proofs.Common.{◌≡◌, ◌≤◌, length, map, get_or, subst}
use Rattle.complex_interval.specs.Rect.{rectangle_of}
use Rattle.admittance_box.specs.Intervals.{placed_ends, pair_ends}
use Rattle.drop_bench.specs.Drops.{drop_ends}
use Rattle.branchwise_bench.proofs.Counting.{own_counted, own_bare}
use Rattle.branchwise_bench.proofs.count.count_at.Goals as goal

pub returns-in-len2-up-clause-value : goal.returns-in-len2-up-clause-value
returns-in-len2-up-clause-value g c =
    let r = get_or c.args.drops.now c.args.done c.index-drops-done.result in
    let is : r ≡ get_or c.args.drops.now c.args.done r = subst (λ d. d ≡ get_or c.args.drops.now c.args.done d) c.index-drops-done.is c.index-drops-done.is in
    own_counted (drop_ends g.E.Enclosure.ends) (pair_ends g.E.Enclosure.ends) g.E.Enclosure.SCALE c.args.drops.now c.args.done r c.set.new.self (rectangle_of g.E.Enclosure.ends c.args.middle) (rectangle_of g.E.Enclosure.ends c.args.rest)
    (map (placed_ends g.E.Enclosure.ends) c.args.branch.now.taps.items) c.args.branch.now.pairs.items c.requires.own.others (subst (λ ps. 2 ≤ length ps) c.as_slice.ensures.value c.in-len2-up.len_at_least) c.requires.own.is is c.set.ensures

pub returns-in-len2-up-clause-bare : goal.returns-in-len2-up-clause-bare
returns-in-len2-up-clause-bare g c =
    let r = get_or c.args.drops.now c.args.done c.index-drops-done.result in
    let is : r ≡ get_or c.args.drops.now c.args.done r = subst (λ d. d ≡ get_or c.args.drops.now c.args.done d) c.index-drops-done.is c.index-drops-done.is in
    own_bare (drop_ends g.E.Enclosure.ends) (pair_ends g.E.Enclosure.ends) c.args.drops.now c.args.done r c.set.new.self (rectangle_of g.E.Enclosure.ends c.args.middle) (rectangle_of g.E.Enclosure.ends c.args.rest)
    (map (placed_ends g.E.Enclosure.ends) c.args.branch.now.taps.items) c.args.branch.now.pairs.items c.requires.own.others (subst (λ ps. 2 ≤ length ps) c.as_slice.ensures.value c.in-len2-up.len_at_least) c.requires.own.is is c.set.ensures
