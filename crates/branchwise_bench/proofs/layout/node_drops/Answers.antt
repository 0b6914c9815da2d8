use Rattle.drop_bench.specs.Drops.{drop_ends}
use Rattle.branchwise_bench.specs.Layout.{bare_nodes}
use Rattle.branchwise_bench.proofs.Making.{nodes_more}
use Rattle.branchwise_bench.proofs.layout.node_drops.Goals as goal

pub loop-place-preserved : goal.loop-place-preserved
loop-place-preserved g c =
    nodes_more (drop_ends g.E.Enclosure.ends) g.E.Enclosure.SCALE c.args.count c.loop-place.place c.loop-place.drops.items c.push.new.self.items c.in_ok-node_drop.field-0 (bare_nodes g.E.Enclosure.SCALE 0 c.args.count)
    c.loop-place-test.true c.in_ok-push.ensures.items c.in_ok-node_drop.ensures c.loop-place.invariant
