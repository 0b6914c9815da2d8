use Rattle.network_theory.proofs.Stated.{cleared}
use Rattle.network_theory.proofs.cleared.Goals as goal

pub returns : goal.returns
returns c = record { law = cleared }
