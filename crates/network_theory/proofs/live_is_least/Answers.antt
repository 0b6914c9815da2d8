use Rattle.network_theory.proofs.Stated.{live_is_least}
use Rattle.network_theory.proofs.live_is_least.Goals as goal

pub returns : goal.returns
returns c = record { law = live_is_least }
