use Rattle.network_theory.proofs.OneBus.{none_at_five}
use Rattle.network_theory.proofs.none_at_five.Goals as goal

pub returns : goal.returns
returns c = record { law = none_at_five }
