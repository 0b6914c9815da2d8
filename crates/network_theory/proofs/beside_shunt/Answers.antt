use Rattle.network_theory.proofs.OneBus.{beside_shunt}
use Rattle.network_theory.proofs.beside_shunt.Goals as goal

pub returns : goal.returns
returns c = record { law = beside_shunt }
