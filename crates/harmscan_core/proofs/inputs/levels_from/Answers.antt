use Rattle.std.proofs.Common.{Ok, refl, ap}
use Rattle.harmscan_core.proofs.inputs.levels_from.Goals as goal

pub returns-in-None : goal.returns-in-None
returns-in-None g c = rw c.in-None.is (record { stays = refl; answer = ap Ok c.new.ensures })
