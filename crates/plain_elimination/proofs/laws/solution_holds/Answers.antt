use Rattle.plain_elimination.proofs.Rectangles.{solution_holds}
use Rattle.plain_elimination.proofs.laws.solution_holds.Goals as goal

pub returns : goal.returns
returns c = record { law = solution_holds }
