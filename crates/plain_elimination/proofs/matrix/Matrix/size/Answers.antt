use Rattle.std.proofs.Common.{map}
use Rattle.complex_interval.specs.Rect.{rectangle_of}
use Rattle.plain_elimination.proofs.Lines.{count_rows}
use Rattle.plain_elimination.proofs.matrix.Matrix.size.Goals as goal

pub returns-clause-rows : goal.returns-clause-rows
returns-clause-rows g c = let inside = c.self.inside in rw (← c.self.view_is) (count_rows inside.size inside.size (map (rectangle_of g.E.Enclosure.ends) inside.cells.items))
