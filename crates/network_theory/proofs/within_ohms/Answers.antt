use Rattle.network_theory.proofs.Ohms.{within_ohms}
use Rattle.network_theory.proofs.within_ohms.Goals as goal

pub returns : goal.returns
returns c = record { law = within_ohms }
