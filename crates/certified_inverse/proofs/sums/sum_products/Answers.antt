use Rattle.std.proofs.Common.{sym, arith}
use Rattle.complex_interval.specs.Rect.{rectangle_of}
use Rattle.certified_inverse.proofs.Products.{summed_more, summed_none}
use Rattle.certified_inverse.proofs.sums.sum_products.Goals as goal

pub returns-in_err-sum : goal.returns-in_err-sum
returns-in_err-sum g c =
    let rectangle = rectangle_of g.E.Enclosure.ends in
    let none = summed_none rectangle g.E.Enclosure.SCALE (rectangle c.args.first) (rectangle c.loop-i.sum) c.args.cs.now c.args.xs.now c.loop-i.i c.index-cs-i.result c.index-xs-i.result (omega arith) (omega arith) c.index-cs-i.is c.index-xs-i.is c.in_err-sum.ensures c.loop-i.invariant in
    rw c.from_residual.ensures (sym none)

pub loop-i-preserved : goal.loop-i-preserved
loop-i-preserved g c =
    let rectangle = rectangle_of g.E.Enclosure.ends in
    summed_more rectangle g.E.Enclosure.SCALE (rectangle c.args.first) (rectangle c.loop-i.sum) (rectangle c.in_ok-sum.sum) c.args.cs.now c.args.xs.now c.loop-i.i c.index-cs-i.result c.index-xs-i.result (omega arith) (omega arith) c.index-cs-i.is c.index-xs-i.is c.in_ok-sum.ensures c.loop-i.invariant
