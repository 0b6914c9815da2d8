use Rattle.std.proofs.Common.{◌≤◌, ◌<◌, ◌-◌, length, map, get_or}
use Rattle.complex_interval.specs.Rect.{rectangle_of}
use Rattle.plain_elimination.specs.Matrix.{nought_rectangle}
use Rattle.plain_elimination.specs.Rectangles.{rectangles}
use Rattle.sparse_rows.specs.Sides.{column_of}
use Rattle.sparse_rows.proofs.SideSteps.{SidedTo}
use Rattle.sparse_rows.proofs.sides.eliminate_sides.Given as goal

abbrev pub invariant-loop-r : goal.invariant-loop-r
invariant-loop-r g l =
    let rectangle = rectangle_of g.E.Enclosure.ends in
    (l.r ≤ length l.right)
    × (l.r < length l.right → 1 ≤ get_or l.gaps l.r 0)
    × SidedTo (rectangles g.E.Enclosure.SCALE) rectangle (rectangle l.pivot) (rectangle l.first_right) (column_of nought_rectangle (length l.initial.right) l.size l.column (map rectangle l.later)) l.initial.right l.right l.r

abbrev pub decreases-loop-r : goal.decreases-loop-r
decreases-loop-r g l = length l.right - l.r
