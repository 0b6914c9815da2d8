use Rattle.linear_systems.proofs.Worked.{worked_systems}
use Rattle.linear_systems.proofs.worked_systems.Goals as goal

pub returns : goal.returns
returns c = record { law = worked_systems }
