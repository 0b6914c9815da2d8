use Rattle.plain_elimination.proofs.Worked.{worked_reductions}
use Rattle.plain_elimination.proofs.laws.worked_reductions.Goals as goal

pub returns : goal.returns
returns c = record { law = worked_reductions }
