use Rattle.network_theory.proofs.Stated.{injective_nodal}
use Rattle.network_theory.proofs.injective_nodal.Goals as goal

pub returns : goal.returns
returns c = record { law = injective_nodal }
