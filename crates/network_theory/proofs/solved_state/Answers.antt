use Rattle.network_theory.proofs.Stated.{solved_state}
use Rattle.network_theory.proofs.solved_state.Goals as goal

pub returns : goal.returns
returns c = record { law = solved_state }
