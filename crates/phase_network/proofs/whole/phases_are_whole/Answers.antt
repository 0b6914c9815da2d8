use Rattle.phase_network.proofs.Growing.{network_whole}
use Rattle.phase_network.proofs.whole.phases_are_whole.Goals as goal

pub returns : goal.returns
returns c = record { law = network_whole }
