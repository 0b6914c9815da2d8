use Rattle.network_theory.proofs.Phases.{coupled_phases}
use Rattle.network_theory.proofs.coupled_phases.Goals as goal

pub returns : goal.returns
returns c = record { law = coupled_phases }
