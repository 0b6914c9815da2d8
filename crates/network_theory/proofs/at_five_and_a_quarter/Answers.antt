use Rattle.network_theory.proofs.OneBus.{at_five_and_a_quarter}
use Rattle.network_theory.proofs.at_five_and_a_quarter.Goals as goal

pub returns : goal.returns
returns c = record { law = at_five_and_a_quarter }
