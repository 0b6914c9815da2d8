use Rattle.std.proofs.Common.{rules}
use Rattle.middle_inverse.specs.Inverse.{middle_point}
use Rattle.middle_inverse.proofs.point.middle_point.Goals as goal

pub returns : goal.returns
unfolding middle_point
returns g c = search rules
