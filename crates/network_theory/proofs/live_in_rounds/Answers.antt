use Rattle.network_theory.proofs.Reach.{live_in_rounds}
use Rattle.network_theory.proofs.live_in_rounds.Goals as goal

pub returns : goal.returns
returns c = record { law = live_in_rounds }
