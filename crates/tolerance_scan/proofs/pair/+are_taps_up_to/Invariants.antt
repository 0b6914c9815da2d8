use Rattle.std.proofs.Common.{length}
use Rattle.tolerance_scan.proofs.pair.+are_taps_up_to.Given as goal

abbrev pub decreases-are_taps_up_to : goal.decreases-are_taps_up_to
decreases-are_taps_up_to l = length l.low.now
