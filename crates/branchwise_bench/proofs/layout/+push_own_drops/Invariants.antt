use Rattle.std.proofs.Common.{length}
use Rattle.branchwise_bench.proofs.layout.+push_own_drops.Given as goal

abbrev pub decreases-push_own_drops : goal.decreases-push_own_drops
decreases-push_own_drops g l = length l.branches.now
