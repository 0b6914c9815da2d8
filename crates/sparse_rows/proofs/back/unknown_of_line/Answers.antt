use Rattle.std.proofs.Common.{arith}
use Rattle.std.specs.Option.{option_map}
use Rattle.complex_interval.specs.Rect.{rectangle_of}
use Rattle.plain_elimination.specs.Rectangles.{rectangles}
use Rattle.plain_elimination.proofs.Systems.{unknown_line}
use Rattle.sparse_rows.proofs.back.unknown_of_line.Goals as goal

pub returns : goal.returns
returns g c =
    let rectangle = rectangle_of g.E.Enclosure.ends in
    λ step. unknown_line (rectangles g.E.Enclosure.SCALE) rectangle c.args.line.now c.cells_from.result.now c.args.xs.now c.index-line-0.result c.args.b (option_map rectangle c.unknown_of.result) (omega arith) c.cells_from.ensures c.index-line-0.is c.unknown_of.ensures step
