use Rattle.std.proofs.Common.{◌∙◌, length, map, Some, None, sym, ap, subst, arith, length-append}
use Rattle.std.specs.List.{All}
use Rattle.exact_fraction.specs.Fraction.{ratio_of}
use Rattle.branchwise_test.specs.Enclosed.{near_of_drops, near_of_branches}
use Rattle.drop_bench.specs.Bench.{BenchSize}
use Rattle.drop_bench.specs.Drops.{drop_ends, bare, IsInside}
use Rattle.branchwise_bench.specs.Layout.{bare_nodes, own_drops, counted_all}
use Rattle.branchwise_live.specs.Live.{live_ends}
use Rattle.branchwise_bench.specs.Pair.{LivePair}
use Rattle.branchwise_bench.proofs.Counting.{nodes_count}
use Rattle.branchwise_bench.proofs.Laid.{laid_inside, near_by_count}
use Rattle.branchwise_bench.proofs.pair.LiveBench.estimate.Goals as goal

pub estimate-requires-clause-nodes_in : goal.estimate-requires-clause-nodes_in
estimate-requires-clause-nodes_in g c =
    let inside = c.self.inside in
    let kept = c.self.invariant in
    let s = g.E.Enclosure.SCALE in
    let owns = own_drops (map (live_ends g.E.Enclosure.ends) inside.branches.items) in
    omega (arith, ap (λ (b : BenchSize). b.nodes) kept.size_is, ap (λ (b : BenchSize). b.drops) kept.size_is, ap length kept.laid, length-append (bare_nodes s 0 inside.nodes) owns, nodes_count s 0 inside.nodes)

pub estimate-requires-clause-inside : goal.estimate-requires-clause-inside
estimate-requires-clause-inside g c =
    let inside = c.self.inside in
    let kept = c.self.invariant in
    let h = drop_ends g.E.Enclosure.ends in
    let laid = c.count_all.ensures.bare ∙ (ap (λ ds. map bare (map h ds)) c.as_mut_slice-drops.ensures.value ∙ kept.laid) in
    subst (λ n. All (IsInside n) c.count_all.new.drops) (sym (ap (λ (b : BenchSize). b.nodes) kept.size_is))
    (laid_inside g.E.Enclosure.ends inside.nodes g.E.Enclosure.SCALE (map (live_ends g.E.Enclosure.ends) inside.branches.items) c.count_all.new.drops laid kept.inside)

pub returns-in-Some-clause-value : goal.returns-in-Some-clause-value
returns-in-Some-clause-value g c =
    let inside = c.self.inside in
    let s = g.E.Enclosure.SCALE in
    let live = live_ends g.E.Enclosure.ends in
    let new = map (drop_ends g.E.Enclosure.ends) c.count_all.new.drops in
    let e = ratio_of c.args.extra in
    c.estimate.ensures.value
    ∙ (ap (λ n. near_of_drops s n new) (ap (λ (b : BenchSize). b.nodes) c.self.invariant.size_is)
    ∙ (near_by_count s g.met.E.Enclosure.small_scale inside.nodes (map live inside.branches.items) e c.args.lo c.args.hi (g.E.Enclosure.ends c.order_range-order.result) (Some new) c.order_range-order.ensures.value
    (c.in-Some.ensures.value ∙ ap (λ bs. counted_all s (g.E.Enclosure.ends c.order_range-order.result) inside.nodes e (map live bs)) c.as_slice.ensures.value)
    ∙ ap (λ (p : LivePair). near_of_branches s p.nodes (Some p.branches) e c.args.lo c.args.hi) c.self.view_is))

pub returns-in-None-clause-value : goal.returns-in-None-clause-value
returns-in-None-clause-value g c =
    let inside = c.self.inside in
    let s = g.E.Enclosure.SCALE in
    let live = live_ends g.E.Enclosure.ends in
    let e = ratio_of c.args.extra in
    near_by_count s g.met.E.Enclosure.small_scale inside.nodes (map live inside.branches.items) e c.args.lo c.args.hi (g.E.Enclosure.ends c.order_range-order.result) None c.order_range-order.ensures.value
    (c.in-None.ensures.value ∙ ap (λ bs. counted_all s (g.E.Enclosure.ends c.order_range-order.result) inside.nodes e (map live bs)) c.as_slice.ensures.value)
    ∙ ap (λ (p : LivePair). near_of_branches s p.nodes (Some p.branches) e c.args.lo c.args.hi) c.self.view_is
