use Rattle.net_branch.specs.Exact.{exact_network}
use Rattle.tolerance_scan.proofs.OneByOne.{wide_next}
use Rattle.tolerance_scan.proofs.tolerances.widen_by.Goals as goal

pub loop-tolerance-preserved : goal.loop-tolerance-preserved
loop-tolerance-preserved c =
    wide_next c.args.upward c.args.tolerances.now (exact_network c.args.network.now) c.loop-tolerance.wide c.in_ok-wide-2.wide c.loop-tolerance.tolerance-index (record { element = 0; permille = 0 }) c.loop-tolerance-test.true
    c.loop-tolerance.invariant c.in_ok-wide-2.ensures.exact (c.in_ok-wide-2.ensures.whole c.loop-tolerance.invariant.whole)
