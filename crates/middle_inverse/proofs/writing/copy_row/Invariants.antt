use Rattle.std.proofs.Common.{map}
use Rattle.complex_interval.specs.Rect.{rectangle_of}
use Rattle.middle_inverse.specs.Points.{rectangle_at}
use Rattle.middle_inverse.proofs.Written.{WrittenTo}
use Rattle.middle_inverse.proofs.writing.copy_row.Given as goal

abbrev pub invariant-loop-i : goal.invariant-loop-i
invariant-loop-i g l = WrittenTo (rectangle_of g.E.Enclosure.ends) (map rectangle_at l.from) l.row l.i
