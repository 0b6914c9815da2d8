use Rattle.complex_interval.specs.Rect.{rectangle_of}
use Rattle.plain_elimination.specs.Rectangles.{rectangles}
use Rattle.plain_elimination.proofs.Layouts.{EliminatedTo}
use Rattle.plain_elimination.proofs.rows.eliminate_rows.Given as goal

abbrev pub invariant-loop-i : goal.invariant-loop-i
invariant-loop-i g l =
    EliminatedTo (rectangles g.E.Enclosure.SCALE) (rectangle_of g.E.Enclosure.ends) (rectangle_of g.E.Enclosure.ends l.pivot) l.first l.initial.later l.later l.rows l.size l.column l.i
