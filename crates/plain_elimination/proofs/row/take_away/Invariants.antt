use Rattle.complex_interval.specs.Rect.{rectangle_of}
use Rattle.plain_elimination.specs.Rectangles.{rectangles}
use Rattle.plain_elimination.proofs.Rests.{TakenTo}
use Rattle.plain_elimination.proofs.row.take_away.Given as goal

abbrev pub invariant-loop-i : goal.invariant-loop-i
invariant-loop-i g l =
    let rectangle = rectangle_of g.E.Enclosure.ends in
    TakenTo (rectangles g.E.Enclosure.SCALE) rectangle (rectangle l.fn.b) l.row l.xs (rectangle l.rest) l.i
