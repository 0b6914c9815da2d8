use Rattle.network_theory.proofs.OneBus.{series_alone}
use Rattle.network_theory.proofs.series_alone.Goals as goal

pub returns : goal.returns
returns c = record { law = series_alone }
