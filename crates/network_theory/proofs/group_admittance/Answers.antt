use Rattle.network_theory.proofs.Whole.{group_admittance}
use Rattle.network_theory.proofs.group_admittance.Goals as goal

pub returns : goal.returns
returns c = record { law = group_admittance }
