use Rattle.network_theory.proofs.Extra.{extra_shunt}
use Rattle.network_theory.proofs.extra_shunt.Goals as goal

pub returns : goal.returns
returns c = record { law = extra_shunt }
