use Rattle.std.proofs.Common.{length}
use Rattle.branchwise_live.proofs.live.+push_live_branches.Given as goal

abbrev pub decreases-push_live_branches : goal.decreases-push_live_branches
decreases-push_live_branches g l = length l.low.now
