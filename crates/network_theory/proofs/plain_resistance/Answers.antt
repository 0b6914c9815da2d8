use Rattle.network_theory.proofs.Stated.{plain_resistance}
use Rattle.network_theory.proofs.plain_resistance.Goals as goal

pub returns : goal.returns
returns c = record { law = plain_resistance }
