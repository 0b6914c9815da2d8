use Rattle.std.proofs.Common.{◌≡◌, ◌++◌, length, take}
use Rattle.net_branch.proofs.element.append_all.Given as goal

abbrev pub invariant-loop-branches : goal.invariant-loop-branches
invariant-loop-branches l = record {
  count : l.len ≡ length l.initial.branches;
  kept : take l.len l.branches ≡ l.initial.branches;
  joined : l.branches ++ l.more ≡ l.initial.branches ++ l.initial.more;
}

abbrev pub decreases-loop-branches : goal.decreases-loop-branches
decreases-loop-branches l = length l.more
