use Rattle.network_theory.proofs.Stated.{one_impedance}
use Rattle.network_theory.proofs.one_impedance.Goals as goal

pub returns : goal.returns
returns c = record { law = one_impedance }
