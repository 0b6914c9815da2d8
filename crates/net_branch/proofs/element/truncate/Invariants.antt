use Rattle.std.proofs.Common.{◌≡◌, ◌≤◌, length, take}
use Rattle.net_branch.proofs.element.truncate.Given as goal

abbrev pub invariant-loop-branches : goal.invariant-loop-branches
invariant-loop-branches l = (l.len ≤ length l.branches) × (take l.len l.branches ≡ take l.len l.initial.branches)

abbrev pub decreases-loop-branches : goal.decreases-loop-branches
decreases-loop-branches l = length l.branches
