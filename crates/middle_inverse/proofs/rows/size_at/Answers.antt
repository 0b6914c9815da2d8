use Rattle.std.proofs.Common.{ap, ◌∙◌}
use Rattle.middle_inverse.specs.Inverse.{size_at, size_or}
use Rattle.middle_inverse.proofs.rows.size_at.Goals as goal

pub returns-in-Some : goal.returns-in-Some
unfolding size_at
returns-in-Some c = c.size_at_point.ensures ∙ ap size_or c.in-Some.ensures

pub returns-in-None : goal.returns-in-None
unfolding size_at
returns-in-None c = ap size_or c.in-None.ensures
