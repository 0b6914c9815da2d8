use Rattle.network_theory.proofs.More.{state_currents}
use Rattle.network_theory.proofs.state_currents.Goals as goal

pub returns : goal.returns
returns c = record { law = state_currents }
