use Rattle.net_branch.specs.Whole.{IsWholeNetwork}
use Rattle.network_cases.proofs.building.expect_steps.Given as goal

abbrev pub invariant-loop-row : goal.invariant-loop-row
invariant-loop-row g l = IsWholeNetwork l.network
