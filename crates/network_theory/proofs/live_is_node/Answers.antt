use Rattle.network_theory.proofs.Phases.{live_is_node}
use Rattle.network_theory.proofs.live_is_node.Goals as goal

pub returns : goal.returns
returns c = record { law = live_is_node }
