use Rattle.std.proofs.Common.{◌≡◌, ◌++◌, ◌-◌, map}
use Rattle.drop_bench.specs.Drops.{drop_ends}
use Rattle.branchwise_bench.specs.Layout.{bare_nodes}
use Rattle.branchwise_bench.proofs.layout.node_drops.Given as goal

abbrev pub invariant-loop-place : goal.invariant-loop-place
invariant-loop-place g l = map (drop_ends g.E.Enclosure.ends) l.drops.items ++ bare_nodes g.E.Enclosure.SCALE l.place (l.count - l.place) ≡ bare_nodes g.E.Enclosure.SCALE 0 l.count
