use Rattle.std.proofs.Common.{sym, arith}
use Rattle.complex_interval.specs.Rect.{rectangle_of}
use Rattle.plain_elimination.specs.Rectangles.{rectangles}
use Rattle.plain_elimination.proofs.Sweeps.{sweep_more, sweep_no_product, sweep_no_difference}
use Rattle.plain_elimination.proofs.row.sweep.Goals as goal

pub returns-in_err-part : goal.returns-in_err-part
returns-in_err-part g c =
    let rectangle = rectangle_of g.E.Enclosure.ends in
    let none = sweep_no_product (rectangles g.E.Enclosure.SCALE) rectangle (rectangle c.args.f) c.args.first.now c.args.row.now c.loop-i.row c.loop-i.i c.index-first-i.result (omega arith) (omega arith) c.index-first-i.is c.in_err-part.ensures.value c.loop-i.invariant in
    rw c.from_residual.ensures (sym none)

pub returns-in_err-row : goal.returns-in_err-row
returns-in_err-row g c =
    let rectangle = rectangle_of g.E.Enclosure.ends in
    let none = sweep_no_difference (rectangles g.E.Enclosure.SCALE) rectangle (rectangle c.args.f) (rectangle c.in_ok-part.part) c.args.first.now c.args.row.now c.loop-i.row c.loop-i.i c.index-first-i.result c.index-row-i.result (omega arith) (omega arith) c.index-first-i.is c.index-row-i.is c.in_ok-part.ensures.value c.in_err-row.ensures.value c.loop-i.invariant in
    rw c.from_residual-in_err-row.ensures (sym none)

pub loop-i-preserved : goal.loop-i-preserved
loop-i-preserved g c =
    let rectangle = rectangle_of g.E.Enclosure.ends in
    sweep_more (rectangles g.E.Enclosure.SCALE) rectangle (rectangle c.args.f) (rectangle c.in_ok-part.part) c.args.first.now c.args.row.now c.loop-i.row c.loop-i.i c.index-first-i.result c.index-row-i.result c.in_ok-row.field-0 (omega arith) (omega arith) c.index-first-i.is c.index-row-i.is c.in_ok-part.ensures.value c.in_ok-row.ensures.value c.loop-i.invariant
