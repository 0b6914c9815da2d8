use Rattle.std.proofs.Common.{rules}
use Rattle.middle_inverse.specs.Inverse.{point_less}
use Rattle.middle_inverse.proofs.point.less_rectangles.Goals as goal

pub returns-in_err-mul : goal.returns-in_err-mul
unfolding point_less
returns-in_err-mul g c = search rules

pub returns-in_err-whole : goal.returns-in_err-whole
unfolding point_less
returns-in_err-whole g c = search rules

pub returns : goal.returns
unfolding point_less
returns g c = search rules
