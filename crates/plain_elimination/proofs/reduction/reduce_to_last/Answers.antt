use Rattle.std.proofs.Common.{◌≡◌, ap, arith}
use Rattle.complex_interval.specs.Rect.{rectangle_of}
use Rattle.plain_elimination.specs.Matrix.{Square}
use Rattle.plain_elimination.proofs.Answers.{complements_held}
use Rattle.plain_elimination.proofs.reduction.reduce_to_last.Goals as goal

pub returns-clause-held : goal.returns-clause-held
returns-clause-held g c =
    let inside = c.matrix.inside in
    let size : inside.size ≡ c.args.matrix.now.size = ap (λ (m : Square). m.size) c.matrix.view_is in
    let cells = rw c.as_mut_slice.ensures.value at c.reduce_cells.ensures in
    rw (← c.matrix.view_is) (complements_held g.E.Enclosure.SCALE (rectangle_of g.E.Enclosure.ends) _ c.reduce_cells.result (omega arith) cells)
