use Rattle.std.proofs.Common.{◌∙◌, map, sym, ap}
use Rattle.std.specs.Prelude.{Some}
use Rattle.std.specs.Option.{option_map}
use Rattle.network_theory.specs.Network.{Network}
use Rattle.net_branch.specs.Exact.{exact_branch}
use Rattle.branchwise_live.specs.Live.{live_ends}
use Rattle.branchwise_bench.specs.Pair.{LivePair}
use Rattle.branchwise_bench.proofs.Laid.{live_inside}
use Rattle.branchwise_bench.proofs.Making.{all_live, none_live, pair_made}
use Rattle.branchwise_bench.proofs.pair.BranchwiseBench.new.Goals as goal
use Rattle.branchwise_bench.proofs.pair.BranchwiseBench.new.Goals.{in-Some+in_ok-new-in-Some, in-None}

pub new-requires-clause-inside : goal.new-requires-clause-inside
new-requires-clause-inside g c =
    let live = live_ends g.E.Enclosure.ends in
    live_inside g.E.Enclosure.SCALE c.ordering-ordering.result.now (map exact_branch c.as_slice-low.result.now) (map exact_branch c.as_slice-high.result.now) (map live c.push_live_branches.new.branches.items)
    (all_live c.in_ok-push_live_branches.field-0 c.in-Some.field-0 (map live c.push_live_branches.new.branches.items) (map live c.new-branches.result.items) _ c.in-Some.is (ap (map live) c.new-branches.ensures.items) c.in_ok-push_live_branches.ensures)

pub returns : goal.returns
returns g c =
    let live = live_ends g.E.Enclosure.ends in
    let s = g.E.Enclosure.SCALE in
    let ordering = c.ordering-ordering.result.now in
    let lows = map exact_branch c.as_slice-low.result.now in
    let highs = map exact_branch c.as_slice-high.result.now in
    let made = pair_made s c.args.assembly.now ordering lows highs (option_map (λ (p : LivePair). p.branches) c.match-branch-2.live) c.ordering-ordering.ensures.nodes
    (ap (map exact_branch) c.as_slice-low.ensures ∙ ap (λ (n : Network). n.branches) c.low.ensures) (ap (map exact_branch) c.as_slice-high.ensures ∙ ap (λ (n : Network). n.branches) c.high.ensures) in
    elim c.match-branch-2.branch [
      | in-Some+in_ok-new-in-Some w ↦ made (all_live c.in_ok-push_live_branches.field-0 w.in-Some.field-0 (map live c.push_live_branches.new.branches.items) (map live c.new-branches.result.items) _ w.in-Some.is (ap (map live) c.new-branches.ensures.items) c.in_ok-push_live_branches.ensures
          ∙ (ap Some (sym (ap (λ (p : LivePair). p.branches) w.in_ok-new-in-Some.ensures)) ∙ sym (ap (option_map (λ (p : LivePair). p.branches)) w.live-is)))
      | in-None w ↦ made (none_live c.in_ok-push_live_branches.field-0 (map live c.push_live_branches.new.branches.items) (map live c.new-branches.result.items) _ w.in-None.is c.in_ok-push_live_branches.ensures ∙ sym (ap (option_map (λ (p : LivePair). p.branches)) w.live-is))
    ]
