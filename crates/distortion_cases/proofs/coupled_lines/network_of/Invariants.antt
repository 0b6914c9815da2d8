use Rattle.net_branch.specs.Whole.{IsWholeNetwork}
use Rattle.distortion_cases.proofs.coupled_lines.network_of.Given as goal

abbrev pub invariant-loop-number : goal.invariant-loop-number
invariant-loop-number l = IsWholeNetwork l.network
