use Rattle.network_theory.proofs.Stated.{reduced_impedance}
use Rattle.network_theory.proofs.reduced_impedance.Goals as goal

pub returns : goal.returns
returns c = record { law = reduced_impedance }
