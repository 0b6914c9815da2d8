use Rattle.network_theory.proofs.Cases.{worked_cases}
use Rattle.network_theory.proofs.worked_cases.Goals as goal

pub returns : goal.returns
returns c = record { law = worked_cases }
