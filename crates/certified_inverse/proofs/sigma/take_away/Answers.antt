use Rattle.std.proofs.Common.{sym, arith}
use Rattle.complex_interval.specs.Rect.{rectangle_of}
use Rattle.complex_interval.specs.Rectangles.{sub_rectangles}
use Rattle.middle_inverse.proofs.Each.{each_two_more, each_two_none}
use Rattle.certified_inverse.proofs.sigma.take_away.Goals as goal

pub returns-in_err-column : goal.returns-in_err-column
returns-in_err-column g c =
    let rectangle = rectangle_of g.E.Enclosure.ends in
    let none = each_two_none rectangle rectangle sub_rectangles c.args.column.now c.loop-i.column c.args.other.now c.loop-i.i c.index-column-i.result c.index-other-i.result (omega arith) (omega arith) c.index-column-i.is c.index-other-i.is c.in_err-column.ensures.value c.loop-i.invariant in
    rw c.from_residual.ensures (sym none)

pub loop-i-preserved : goal.loop-i-preserved
loop-i-preserved g c =
    let rectangle = rectangle_of g.E.Enclosure.ends in
    each_two_more rectangle rectangle sub_rectangles c.args.column.now c.loop-i.column c.args.other.now c.loop-i.i c.index-column-i.result c.in_ok-column.field-0 c.index-other-i.result (omega arith) (omega arith) c.index-column-i.is c.index-other-i.is c.in_ok-column.ensures.value c.loop-i.invariant
