use Rattle.std.proofs.Common.{length}
use Rattle.branchwise_bench.proofs.count.+count_branches.Given as goal

abbrev pub decreases-count_branches : goal.decreases-count_branches
decreases-count_branches g l = length l.branches.now
