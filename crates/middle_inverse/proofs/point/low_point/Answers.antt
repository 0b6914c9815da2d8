use Rattle.std.proofs.Common.{rules}
use Rattle.middle_inverse.specs.Inverse.{low_point}
use Rattle.middle_inverse.proofs.point.low_point.Goals as goal

pub returns : goal.returns
unfolding low_point
returns g c = search rules
