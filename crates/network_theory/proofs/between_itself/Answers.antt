use Rattle.network_theory.proofs.More.{between_itself}
use Rattle.network_theory.proofs.between_itself.Goals as goal

pub returns : goal.returns
returns c = record { law = between_itself }
