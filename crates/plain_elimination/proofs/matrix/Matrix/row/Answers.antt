use Rattle.std.proofs.Common.{◌≡◌, ap, ◌∙◌, length, arith}
use Rattle.complex_interval.specs.Rect.{rectangle_of}
use Rattle.plain_elimination.specs.Matrix.{Square}
use Rattle.plain_elimination.proofs.Places.{row_read, row_length}
use Rattle.plain_elimination.proofs.matrix.Matrix.row.Goals as goal

pub returns : goal.returns
returns g c =
    let inside = c.self.inside in
    let size : inside.size ≡ c.args.self.now.size = ap (λ (m : Square). m.size) c.self.view_is in
    let is = rw c.as_slice.ensures.value at c.cells_of_row.ensures in
    record {
      value = rw (← c.self.view_is) (row_read (rectangle_of g.E.Enclosure.ends) inside.size c.args.row inside.cells.items c.cells_of_row.result.now (omega arith) is);
      width = ap length is ∙ row_length inside.size c.args.row inside.cells.items (omega arith) c.self.invariant.0 ∙ size;
    }
