use Rattle.std.proofs.Common.{sym, arith}
use Rattle.complex_interval.specs.Rect.{rectangle_of}
use Rattle.plain_elimination.specs.Rectangles.{rectangles}
use Rattle.plain_elimination.proofs.Rests.{taken_more, taken_no_product, taken_no_difference}
use Rattle.plain_elimination.proofs.row.take_away.Goals as goal

pub returns-in_err-part : goal.returns-in_err-part
returns-in_err-part g c =
    let rectangle = rectangle_of g.E.Enclosure.ends in
    let none = taken_no_product (rectangles g.E.Enclosure.SCALE) rectangle (rectangle c.args.b) (rectangle c.loop-i.rest) c.args.row.now c.args.xs.now c.loop-i.i c.index-row-i.result c.index-xs-i.result (omega arith) (omega arith) c.index-row-i.is c.index-xs-i.is c.in_err-part.ensures.value c.loop-i.invariant in
    rw c.from_residual.ensures (sym none)

pub returns-in_err-rest : goal.returns-in_err-rest
returns-in_err-rest g c =
    let rectangle = rectangle_of g.E.Enclosure.ends in
    let none = taken_no_difference (rectangles g.E.Enclosure.SCALE) rectangle (rectangle c.args.b) (rectangle c.loop-i.rest) (rectangle c.in_ok-part.part) c.args.row.now c.args.xs.now c.loop-i.i c.index-row-i.result c.index-xs-i.result (omega arith) (omega arith) c.index-row-i.is c.index-xs-i.is c.in_ok-part.ensures.value c.in_err-rest.ensures.value c.loop-i.invariant in
    rw c.from_residual-in_err-rest.ensures (sym none)

pub loop-i-preserved : goal.loop-i-preserved
loop-i-preserved g c =
    let rectangle = rectangle_of g.E.Enclosure.ends in
    taken_more (rectangles g.E.Enclosure.SCALE) rectangle (rectangle c.args.b) (rectangle c.loop-i.rest) (rectangle c.in_ok-part.part) (rectangle c.in_ok-rest.rest) c.args.row.now c.args.xs.now c.loop-i.i c.index-row-i.result c.index-xs-i.result (omega arith) (omega arith) c.index-row-i.is c.index-xs-i.is c.in_ok-part.ensures.value c.in_ok-rest.ensures.value c.loop-i.invariant
