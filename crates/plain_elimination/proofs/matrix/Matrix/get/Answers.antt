use Rattle.std.proofs.Common.{◌≡◌, ap, arith}
use Rattle.complex_interval.specs.Rect.{rectangle_of}
use Rattle.plain_elimination.specs.Matrix.{Square}
use Rattle.plain_elimination.proofs.Places.{entry_read}
use Rattle.plain_elimination.proofs.matrix.Matrix.get.Goals as goal

pub returns : goal.returns
returns g c =
    let inside = c.self.inside in
    let size : inside.size ≡ c.args.self.now.size = ap (λ (m : Square). m.size) c.self.view_is in
    let place = c.place_of-place.ensures in
    rw (← c.self.view_is)
    (entry_read (rectangle_of g.E.Enclosure.ends) inside.size c.args.row c.args.column c.place_of-place.result inside.cells.items c.index.result.now (omega arith) (omega arith) c.self.invariant.0 place.place place.place_in c.index.ensures)
