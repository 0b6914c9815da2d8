use Rattle.complex_interval.specs.Rect.{rectangle_of}
use Rattle.plain_elimination.specs.Rectangles.{rectangles}
use Rattle.plain_elimination.proofs.Sweeps.{SweptTo}
use Rattle.plain_elimination.proofs.row.sweep.Given as goal

abbrev pub invariant-loop-i : goal.invariant-loop-i
invariant-loop-i g l = SweptTo (rectangles g.E.Enclosure.SCALE) (rectangle_of g.E.Enclosure.ends) (rectangle_of g.E.Enclosure.ends l.f) l.first l.initial.row l.row l.i
