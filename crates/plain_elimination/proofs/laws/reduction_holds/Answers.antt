use Rattle.plain_elimination.proofs.Rectangles.{reduction_holds}
use Rattle.plain_elimination.proofs.laws.reduction_holds.Goals as goal

pub returns : goal.returns
returns c = record { law = reduction_holds }
