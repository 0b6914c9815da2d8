use Rattle.sequence_network.specs.Refusals.IsFloatingBus.{floating_bus}
use Rattle.sequence_network.proofs.live.check_buses.Goals as goal

pub returns-in-Some-clause-floating : goal.returns-in-Some-clause-floating
returns-in-Some-clause-floating c = floating_bus c.in-Some.number c.in-Some.ensures
