use Rattle.std.proofs.Common.{sym, ap, ◌∙◌, arith}
use Rattle.middle_inverse.specs.Points.{rectangle_at}
use Rattle.middle_inverse.specs.Inverse.{point_quotient}
use Rattle.middle_inverse.proofs.Each.{each_more, each_none}
use Rattle.middle_inverse.proofs.rows.divide_row.Goals as goal

pub returns-in_err-row : goal.returns-in_err-row
returns-in_err-row g c =
    let rectangle = rectangle_at in
    let none = each_none rectangle (λ a. point_quotient g.E.Enclosure.SCALE a (rectangle c.args.pivot)) c.args.row.now c.loop-i.row c.loop-i.i c.index-row-i.result (omega arith) c.index-row-i.is c.in_err-row.ensures c.loop-i.invariant in
    rw c.from_residual.ensures (sym none)

pub loop-i-preserved : goal.loop-i-preserved
loop-i-preserved g c =
    let rectangle = rectangle_at in
    each_more rectangle (λ a. point_quotient g.E.Enclosure.SCALE a (rectangle c.args.pivot)) c.args.row.now c.loop-i.row c.loop-i.i c.index-row-i.result c.in_ok-row.field-0 (omega arith) c.index-row-i.is c.in_ok-row.ensures c.loop-i.invariant

pub quotient_by-requires-clause-nought : goal.quotient_by-requires-clause-nought
quotient_by-requires-clause-nought g c = c.quotient-of_nought.ensures ∙ ap (λ z. point_quotient g.E.Enclosure.SCALE z (rectangle_at c.args.pivot)) c.nought.ensures
