use Rattle.complex_interval.specs.Rect.{rectangle_of}
use Rattle.certified_inverse.proofs.Products.{SummedTo}
use Rattle.certified_inverse.proofs.sums.sum_products.Given as goal

abbrev pub invariant-loop-i : goal.invariant-loop-i
invariant-loop-i g l = let rectangle = rectangle_of g.E.Enclosure.ends in SummedTo rectangle g.E.Enclosure.SCALE (rectangle l.fn.first) l.cs l.xs (rectangle l.sum) l.i
