use Rattle.std.proofs.Common.{◌≤◌, ◌-◌, length}
use Rattle.middle_inverse.specs.Points.{rectangle_at}
use Rattle.middle_inverse.specs.Inverse.{point_less}
use Rattle.middle_inverse.proofs.Each.{EachTwoTo}
use Rattle.middle_inverse.proofs.rows.subtract_row.Given as goal

abbrev pub invariant-loop-i : goal.invariant-loop-i
invariant-loop-i g l = record {
  in_range : l.i ≤ length l.row;
  done : EachTwoTo rectangle_at rectangle_at (point_less g.E.Enclosure.SCALE (rectangle_at l.f)) l.initial.row l.row l.first l.i;
}

abbrev pub decreases-loop-i : goal.decreases-loop-i
decreases-loop-i g l = length l.row - l.i
