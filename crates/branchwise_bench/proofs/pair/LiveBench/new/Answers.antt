use Rattle.std.proofs.Common.{◌≡◌, ◌∙◌, ◌++◌, length, map, ap, arith}
use Rattle.std.proofs.lemmas.List.{length-map}
use Rattle.drop_bench.specs.Drops.{drop_ends, bare}
use Rattle.branchwise_bench.specs.Layout.{bare_nodes, own_drops}
use Rattle.branchwise_live.specs.Live.{live_ends}
use Rattle.branchwise_bench.proofs.Counting.{bare_laid}
use Rattle.branchwise_bench.proofs.pair.LiveBench.new.Goals as goal

pub invariant_of-result : goal.invariant_of-result
invariant_of-result g c =
    let h = drop_ends g.E.Enclosure.ends in
    let live = live_ends g.E.Enclosure.ends in
    let items = c.push_own_drops.new.drops.items in
    let kept = c.push_own_drops.new.drops.ok.0 in
    let count : c.len.result ≡ length (map bare (map h items)) = omega (arith, kept, c.len.ensures, length-map (map h items) bare, length-map items h) in
    record {
      some = c.requires.some;
      few = c.requires.few;
      inside = c.requires.inside;
      size_is = c.in_ok-bench.ensures ∙ ap (λ n. record { nodes = c.args.nodes; drops = n }) count;
      laid = ap (map bare) (c.in_ok-push_own_drops.ensures
          ∙ (ap (λ l. l ++ own_drops (map live c.as_slice.result.now)) c.in_ok-drops.ensures ∙ ap (λ bs. bare_nodes g.E.Enclosure.SCALE 0 c.args.nodes ++ own_drops (map live bs)) c.as_slice.ensures.value))
          ∙ bare_laid g.E.Enclosure.SCALE c.args.nodes (map live c.args.branches.items);
    }
