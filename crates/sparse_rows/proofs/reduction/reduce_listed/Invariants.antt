use Rattle.std.proofs.Common.{map}
use Rattle.complex_interval.specs.Rect.{rectangle_of}
use Rattle.plain_elimination.specs.Rectangles.{rectangles}
use Rattle.plain_elimination.proofs.Left.{ReducedTo}
use Rattle.sparse_rows.specs.Listed.{ZeroOutside}
use Rattle.sparse_rows.proofs.reduction.reduce_listed.Given as goal

abbrev pub invariant-loop-column : goal.invariant-loop-column
invariant-loop-column g l =
    ReducedTo (rectangles g.E.Enclosure.SCALE) (rectangle_of g.E.Enclosure.ends) l.initial.cells l.cells l.size l.column
    × ZeroOutside l.gaps (map (rectangle_of g.E.Enclosure.ends) l.cells)
