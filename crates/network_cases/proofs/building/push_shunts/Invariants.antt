use Rattle.net_branch.specs.Whole.{IsWholeNetwork}
use Rattle.network_cases.proofs.building.push_shunts.Given as goal

abbrev pub invariant-loop-i : goal.invariant-loop-i
invariant-loop-i l = IsWholeNetwork l.network
