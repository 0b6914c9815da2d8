use Rattle.network_theory.proofs.Stated.{peak}
use Rattle.network_theory.proofs.peak.Goals as goal

pub returns : goal.returns
returns c = record { law = peak }
