use Rattle.std.proofs.Common.{rules}
use Rattle.middle_inverse.specs.Inverse.{size_of}
use Rattle.middle_inverse.proofs.point.size_of.Goals as goal

pub returns : goal.returns
unfolding size_of
returns g c = search rules
