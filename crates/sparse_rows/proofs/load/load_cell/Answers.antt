use Rattle.complex_interval.specs.Rect.{rectangle_of}
use Rattle.std.proofs.Common.{arith}
use Rattle.sparse_rows.proofs.Loads.{copied, copied_closer}
use Rattle.sparse_rows.proofs.load.load_cell.Goals as goal

pub returns-clause-closer : goal.returns-clause-closer
returns-clause-closer g c =
    rw c.set_cell.ensures (copied_closer (rectangle_of g.E.Enclosure.ends) c.args.source.now c.args.cells.now c.args.at c.cell-value.result (omega arith) (omega arith) c.cell-value.ensures)

pub returns-clause-here : goal.returns-clause-here
returns-clause-here g c =
    rw c.set_cell.ensures (copied (rectangle_of g.E.Enclosure.ends) c.args.source.now c.args.cells.now c.args.at c.cell-value.result (omega arith) (omega arith) c.cell-value.ensures)
