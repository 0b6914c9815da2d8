use Rattle.network_theory.proofs.Whole.{split_admittances}
use Rattle.network_theory.proofs.split_admittances.Goals as goal

pub returns : goal.returns
returns c = record { law = split_admittances }
