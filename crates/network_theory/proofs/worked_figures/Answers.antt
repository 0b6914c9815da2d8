use Rattle.network_theory.proofs.Figures.{worked_figures}
use Rattle.network_theory.proofs.worked_figures.Goals as goal

pub returns : goal.returns
returns c = record { law = worked_figures }
