use Rattle.std.proofs.Common.{◌∙◌, map, ap, arith}
use Rattle.std.proofs.lemmas.List.{length-map}
use Rattle.std.specs.Option.{option_map}
use Rattle.exact_fraction.specs.Fraction.{ratio_of}
use Rattle.branchwise_test.specs.Drops.{with_branches}
use Rattle.drop_bench.specs.Drops.{drop_ends}
use Rattle.branchwise_live.specs.Live.{live_ends}
use Rattle.branchwise_bench.proofs.Counting.{cleared_bare, cleared_rest, cleared_front, cleared_count, all_counted, none_counted}
use Rattle.branchwise_bench.proofs.count.count_all.Goals as goal

pub count_branches-requires-clause-done_in : goal.count_branches-requires-clause-done_in
count_branches-requires-clause-done_in g c =
    let h = drop_ends g.E.Enclosure.ends in
    let k = cleared_count (map h c.clear.new.drops) (map h c.args.drops.now) g.E.Enclosure.SCALE c.args.nodes (map (live_ends g.E.Enclosure.ends) c.args.branches.now) c.clear.ensures c.requires.laid in
    omega (arith, k, length-map c.clear.new.drops h)

pub count_branches-requires-clause-laid : goal.count_branches-requires-clause-laid
count_branches-requires-clause-laid g c =
    let h = drop_ends g.E.Enclosure.ends in
    cleared_rest (map h c.clear.new.drops) (map h c.args.drops.now) g.E.Enclosure.SCALE c.args.nodes (map (live_ends g.E.Enclosure.ends) c.args.branches.now) c.clear.ensures c.requires.laid

pub returns-in_err-count_branches-clause-value : goal.returns-in_err-count_branches-clause-value
returns-in_err-count_branches-clause-value g c =
    let h = drop_ends g.E.Enclosure.ends in
    let live = map (live_ends g.E.Enclosure.ends) c.args.branches.now in
    let front = cleared_front (map h c.clear.new.drops) (map h c.args.drops.now) g.E.Enclosure.SCALE c.args.nodes live c.clear.ensures c.requires.laid in
    ap (option_map (λ _. map h c.count_branches.new.drops)) c.from_residual.ensures
    ∙ none_counted g.E.Enclosure.SCALE (g.E.Enclosure.ends c.args.order) c.args.nodes (ratio_of c.args.extra) live (c.in_err-count_branches.ensures.value ∙ ap (with_branches g.E.Enclosure.SCALE (g.E.Enclosure.ends c.args.order) live) front)

pub returns-in_err-count_branches-clause-bare : goal.returns-in_err-count_branches-clause-bare
returns-in_err-count_branches-clause-bare g c =
    let h = drop_ends g.E.Enclosure.ends in
    c.count_branches.ensures.bare ∙ cleared_bare (map h c.clear.new.drops) (map h c.args.drops.now) g.E.Enclosure.SCALE c.args.nodes (map (live_ends g.E.Enclosure.ends) c.args.branches.now) c.clear.ensures c.requires.laid

pub returns-clause-value : goal.returns-clause-value
returns-clause-value g c =
    let h = drop_ends g.E.Enclosure.ends in
    let live = map (live_ends g.E.Enclosure.ends) c.args.branches.now in
    let front = cleared_front (map h c.clear.new.drops) (map h c.args.drops.now) g.E.Enclosure.SCALE c.args.nodes live c.clear.ensures c.requires.laid in
    all_counted g.E.Enclosure.SCALE (g.E.Enclosure.ends c.args.order) c.args.nodes (ratio_of c.args.extra) live (map h c.count_branches.new.drops) (option_map (λ _. map h c.count_extra.new.drops) c.count_extra.result)
    (c.in_ok-count_branches.ensures.value ∙ ap (with_branches g.E.Enclosure.SCALE (g.E.Enclosure.ends c.args.order) live) front) c.count_extra.ensures.value

pub returns-clause-bare : goal.returns-clause-bare
returns-clause-bare g c =
    let h = drop_ends g.E.Enclosure.ends in
    c.count_extra.ensures.bare ∙ (c.count_branches.ensures.bare ∙ cleared_bare (map h c.clear.new.drops) (map h c.args.drops.now) g.E.Enclosure.SCALE c.args.nodes (map (live_ends g.E.Enclosure.ends) c.args.branches.now) c.clear.ensures c.requires.laid)
