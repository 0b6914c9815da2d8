use Rattle.std.proofs.Common.{map}
use Rattle.complex_interval.specs.Rect.{rectangle_of}
use Rattle.plain_elimination.specs.Rectangles.{rectangles}
use Rattle.plain_elimination.proofs.Systems.{SolvedTo}
use Rattle.sparse_rows.specs.Listed.{ZeroOutside}
use Rattle.sparse_rows.proofs.solution.eliminate_system.Given as goal

abbrev pub invariant-loop-column : goal.invariant-loop-column
invariant-loop-column g l = record {
  solved : SolvedTo (rectangles g.E.Enclosure.SCALE) (rectangle_of g.E.Enclosure.ends) l.initial.cells l.initial.right l.cells l.right l.size l.column;
  zeros : ZeroOutside l.gaps (map (rectangle_of g.E.Enclosure.ends) l.cells);
}
