use Rattle.complex_interval.specs.Rect.{rectangle_of}
use Rattle.plain_elimination.specs.Rectangles.{rectangles}
use Rattle.plain_elimination.proofs.Systems.{BackTo}
use Rattle.sparse_rows.proofs.back.substitute_back.Given as goal

abbrev pub invariant-loop-row : goal.invariant-loop-row
invariant-loop-row g l = BackTo (rectangles g.E.Enclosure.SCALE) (rectangle_of g.E.Enclosure.ends) l.cells l.initial.right l.right l.size l.row
