use Rattle.std.proofs.Common.{[], map, ap, ◌∙◌, sym, arith}
use Rattle.complex_interval.specs.Rect.{rectangle_of}
use Rattle.certified_inverse.specs.Certificate.{sum_products, nought_rectangle}
use Rattle.certified_inverse.proofs.Placed.{element, placed_begins, placed_more, placed_none, placed_all}
use Rattle.certified_inverse.proofs.sigma.multiply.Goals as goal

pub returns-in_err-values-clause-value : goal.returns-in_err-values-clause-value
returns-in_err-values-clause-value g c =
    let rectangle = rectangle_of g.E.Enclosure.ends in
    let s = g.E.Enclosure.SCALE in
    let rows = c.args.matrix.now.rows in
    let row = map rectangle c.row.result.now in
    let x = map rectangle c.args.x.now in
    let here = element rows c.loop-i.i [] row (omega (arith, c.size-i-end.ensures.rows)) c.row.ensures.value in
    let none = placed_none rectangle (λ row. sum_products s nought_rectangle row x) rows c.loop-i.values c.loop-i.i row here (c.in_err-values.ensures ∙ ap (λ n. sum_products s n row x) c.nought_point.ensures) c.loop-i.invariant in
    rw c.from_residual.ensures (sym none)

pub loop-i-preserved : goal.loop-i-preserved
loop-i-preserved g c =
    let rectangle = rectangle_of g.E.Enclosure.ends in
    let s = g.E.Enclosure.SCALE in
    let rows = c.args.matrix.now.rows in
    let row = map rectangle c.row.result.now in
    let x = map rectangle c.args.x.now in
    let here = element rows c.loop-i.i [] row (omega (arith, c.size-i-end.ensures.rows)) c.row.ensures.value in
    placed_more rectangle (λ row. sum_products s nought_rectangle row x) rows c.loop-i.values c.loop-i.i row c.in_ok-values.field-0 (omega arith) here (c.in_ok-values.ensures ∙ ap (λ n. sum_products s n row x) c.nought_point.ensures) c.loop-i.invariant

pub returns-clause-value : goal.returns-clause-value
returns-clause-value g c =
    let rectangle = rectangle_of g.E.Enclosure.ends in
    let rows = c.args.matrix.now.rows in
    let x = map rectangle c.args.x.now in
    sym (placed_all rectangle (λ row. sum_products g.E.Enclosure.SCALE nought_rectangle row x) rows c.loop-i.values c.loop-i.i (omega arith) (omega (arith, c.size-i-end.ensures.rows)) c.loop-i.invariant)

pub loop-i-init : goal.loop-i-init
loop-i-init g c =
    let rectangle = rectangle_of g.E.Enclosure.ends in
    placed_begins rectangle (λ row. sum_products g.E.Enclosure.SCALE nought_rectangle row (map rectangle c.args.x.now)) c.args.matrix.now.rows c.args.values.now
