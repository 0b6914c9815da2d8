use Rattle.std.proofs.Common.{arith}
use Rattle.net_branch.proofs.Wholes.{empty_whole}
use Rattle.net_branch.proofs.build.new_network.Goals as goal

pub returns-clause-whole : goal.returns-clause-whole
returns-clause-whole c = empty_whole _ c.new.ensures (omega arith) c.requires
