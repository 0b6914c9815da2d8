use Rattle.net_branch.proofs.NextBranch.{next_keeps_grouping}
use Rattle.net_branch.proofs.build.next_keeps_grouping.Goals as goal

pub returns : goal.returns
returns c = record { law = next_keeps_grouping }
