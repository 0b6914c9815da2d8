use Rattle.std.proofs.Common.{map}
use Rattle.complex_interval.specs.Rect.{rectangle_of}
use Rattle.middle_inverse.specs.Inverse.{middle_point}
use Rattle.middle_inverse.specs.Points.{rectangle_at}
use Rattle.middle_inverse.proofs.Written.{WrittenTo}
use Rattle.middle_inverse.proofs.writing.write_middles.Given as goal

abbrev pub invariant-loop-i : goal.invariant-loop-i
invariant-loop-i g l = let rectangle = rectangle_of g.E.Enclosure.ends in WrittenTo rectangle_at (map middle_point (map rectangle l.from)) l.row l.i
