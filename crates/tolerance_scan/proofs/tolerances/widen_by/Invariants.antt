use Rattle.net_branch.specs.Exact.{exact_network}
use Rattle.tolerance_scan.proofs.OneByOne.{IsWideSoFar}
use Rattle.tolerance_scan.proofs.tolerances.widen_by.Given as goal

abbrev pub invariant-loop-tolerance : goal.invariant-loop-tolerance
invariant-loop-tolerance l = IsWideSoFar l.upward l.tolerances (exact_network l.network) l.wide l.tolerance-index
