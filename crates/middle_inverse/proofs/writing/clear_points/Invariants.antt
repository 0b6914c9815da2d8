use Rattle.std.proofs.Common.{length, replicate}
use Rattle.plain_elimination.specs.Matrix.{nought_rectangle}
use Rattle.middle_inverse.specs.Points.{rectangle_at}
use Rattle.middle_inverse.proofs.Written.{WrittenTo}
use Rattle.middle_inverse.proofs.writing.clear_points.Given as goal

abbrev pub invariant-loop-i : goal.invariant-loop-i
invariant-loop-i l = WrittenTo rectangle_at (replicate (length l.initial.row) nought_rectangle) l.row l.i
