use Rattle.std.proofs.Common.{◌≡◌, length}
use Rattle.net_branch.specs.Marks.{AreFound, unmarked}
use Rattle.net_branch.proofs.live_nodes.live.Given as goal

abbrev pub invariant-loop : goal.invariant-loop
invariant-loop l = record {
  found : AreFound l.network l.marks.items;
  count : length l.marks.items ≡ l.network.nodes;
}

abbrev pub decreases-loop : goal.decreases-loop
decreases-loop l = unmarked l.marks.items
