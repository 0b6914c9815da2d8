use Rattle.std.proofs.Common.{◌≡◌, ap, arith}
use Rattle.complex_interval.specs.Rect.{rectangle_of}
use Rattle.plain_elimination.specs.Matrix.{Square}
use Rattle.plain_elimination.proofs.Places.{rows_set}
use Rattle.plain_elimination.proofs.matrix.Matrix.set.Goals as goal

pub returns : goal.returns
returns g c =
    let inside = c.self.inside in
    let size : inside.size ≡ c.args.self.now.size = ap (λ (m : Square). m.size) c.self.view_is in
    rw (← c.self.view_is)
    (ap (λ rows. record { size = inside.size; rows = rows })
    (rows_set (rectangle_of g.E.Enclosure.ends) inside.size c.args.row c.args.column c.place_of-place.result inside.cells.items c.args.value (omega arith) (omega arith) c.place_of-place.ensures.place))
