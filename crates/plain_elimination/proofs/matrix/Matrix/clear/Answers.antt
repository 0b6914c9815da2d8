use Rattle.std.proofs.Common.{◌≡◌, ◌∙◌, ap, length, arith}
use Rattle.std.proofs.lemmas.List.{with_items_is}
use Rattle.std.specs.Prelude.{replicate, map}
use Rattle.std.specs.Vec.{with_items}
use Rattle.complex_interval.specs.Rect.{rectangle_of}
use Rattle.plain_elimination.specs.Layout.{rows_of}
use Rattle.plain_elimination.specs.Matrix.{Square, nought_rectangle}
use Rattle.plain_elimination.proofs.Places.{rows_replicate}
use Rattle.plain_elimination.proofs.matrix.Matrix.clear.Goals as goal

pub returns : goal.returns
returns g c =
    let inside = c.self.inside in
    let cells = inside.cells in
    let new = c.clear_cells.new.cells in
    let rectangle = rectangle_of g.E.Enclosure.ends in
    let size : inside.size ≡ c.args.self.now.size = ap (λ (m : Square). m.size) c.self.view_is in
    let count = ap length c.as_mut_slice.ensures.value ∙ c.self.invariant.0 in
    let kept : (with_items cells new).items ≡ new = with_items_is cells new (omega (arith, c.clear_cells.auto.cells, ap length c.as_mut_slice.ensures.value, cells.ok.0)) in
    rw (← size)
    (ap (λ rows. record { size = inside.size; rows = rows })
    (ap (λ l. rows_of inside.size inside.size (map rectangle l)) kept ∙ ap (rows_of inside.size inside.size) (c.clear_cells.ensures ∙ ap (λ n. replicate n nought_rectangle) count) ∙ rows_replicate inside.size inside.size nought_rectangle))
