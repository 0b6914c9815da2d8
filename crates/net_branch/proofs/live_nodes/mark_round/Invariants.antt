use Rattle.std.proofs.Common.{◌≡◌, ◌<◌, true, false, take}
use Rattle.std.specs.Prelude.{All}
use Rattle.net_branch.specs.Marks.{IsFilled, AreFound, unmarked}
use Rattle.net_branch.proofs.live_nodes.mark_round.Given as goal

abbrev pub invariant-loop-branch : goal.invariant-loop-branch
invariant-loop-branch l = record {
  found : AreFound l.network l.marks;
  still : l.marked ≡ false → (l.marks ≡ l.initial.marks) × All (IsFilled l.marks) (take l.branch-index l.network.branches);
  more : l.marked ≡ true → unmarked l.marks < unmarked l.initial.marks;
}
