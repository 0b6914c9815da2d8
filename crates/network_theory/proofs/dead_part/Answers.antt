use Rattle.network_theory.proofs.More.{dead_part}
use Rattle.network_theory.proofs.dead_part.Goals as goal

pub returns : goal.returns
returns c = record { law = dead_part }
