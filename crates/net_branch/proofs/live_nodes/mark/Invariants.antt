use Rattle.std.proofs.Common.{◌≡◌, ℕ, ◌<◌, ◌⊎◌, true, false, take}
use Rattle.net_branch.specs.Marks.{IsMarked, AreMarked, unmarked, HasTapAt}
use Rattle.net_branch.proofs.live_nodes.mark.Given as goal

abbrev pub invariant-loop-tap : goal.invariant-loop-tap
invariant-loop-tap l = record {
  only : (n : ℕ) → IsMarked l.marks n → IsMarked l.initial.marks n ⊎ HasTapAt l.taps n;
  still : l.grew ≡ false → (l.marks ≡ l.initial.marks) × AreMarked l.marks (take l.tap-index l.taps);
  more : l.grew ≡ true → unmarked l.marks < unmarked l.initial.marks;
}
