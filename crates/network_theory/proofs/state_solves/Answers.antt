use Rattle.network_theory.proofs.Stated.{state_solves}
use Rattle.network_theory.proofs.state_solves.Goals as goal

pub returns : goal.returns
returns c = record { law = state_solves }
