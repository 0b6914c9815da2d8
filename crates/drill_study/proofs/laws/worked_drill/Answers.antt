use Rattle.std.proofs.Common.{refl}
use Rattle.drill_study.specs.Draws.{next, drawn}
use Rattle.drill_study.proofs.laws.worked_drill.Goals as goal

pub returns : goal.returns
unfolding next drawn
returns c = record { law = record { to = refl; r = refl; x = refl; b = refl; next_to = refl; next_r = refl; next_x = refl; next_b = refl } }
