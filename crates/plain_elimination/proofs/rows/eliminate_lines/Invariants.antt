use Rattle.complex_interval.specs.Rect.{rectangle_of}
use Rattle.plain_elimination.specs.Rectangles.{rectangles}
use Rattle.plain_elimination.proofs.Lines.{LinedTo}
use Rattle.plain_elimination.proofs.rows.eliminate_lines.Given as goal

abbrev pub invariant-loop-i : goal.invariant-loop-i
invariant-loop-i g l =
    let rectangle = rectangle_of g.E.Enclosure.ends in
    LinedTo (rectangles g.E.Enclosure.SCALE) rectangle (rectangle l.pivot) l.first (rectangle l.first_right) l.initial.later l.initial.right l.later l.right l.size l.column l.i
