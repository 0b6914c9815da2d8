use Rattle.complex_interval.specs.Rect.{rectangle_of}
use Rattle.plain_elimination.specs.Rectangles.{rectangles}
use Rattle.plain_elimination.proofs.Systems.{SolvedTo}
use Rattle.plain_elimination.proofs.solution.eliminate_system.Given as goal

abbrev pub invariant-loop-column : goal.invariant-loop-column
invariant-loop-column g l = SolvedTo (rectangles g.E.Enclosure.SCALE) (rectangle_of g.E.Enclosure.ends) l.initial.cells l.initial.right l.cells l.right l.size l.column
