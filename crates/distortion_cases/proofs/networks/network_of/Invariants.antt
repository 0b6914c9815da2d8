use Rattle.net_branch.specs.Whole.{IsWholeNetwork}
use Rattle.distortion_cases.proofs.networks.network_of.Given as goal

abbrev pub invariant-loop-part : goal.invariant-loop-part
invariant-loop-part l = IsWholeNetwork l.network
