use Rattle.std.proofs.Common.{◌≡◌, ◌≤◌, ◌<◌, ◌^◌, map, take}
use Rattle.net_branch.specs.Exact.{exact_branch}
use Rattle.phase_network.specs.Phases.{next_group}
use Rattle.phase_network.proofs.elements.next_group.Given as goal

abbrev pub invariant-loop-branch : goal.invariant-loop-branch
invariant-loop-branch l = record {
  value : l.next ≡ next_group (map exact_branch (take l.branch-index l.network.branches));
  first : 1 ≤ l.next;
  few : l.next < 2 ^ 31;
}
