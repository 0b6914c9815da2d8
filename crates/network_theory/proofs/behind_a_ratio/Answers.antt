use Rattle.network_theory.proofs.Phases.{behind_a_ratio}
use Rattle.network_theory.proofs.behind_a_ratio.Goals as goal

pub returns : goal.returns
returns c = record { law = behind_a_ratio }
