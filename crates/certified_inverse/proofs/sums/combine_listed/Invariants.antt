use Rattle.std.proofs.Common.{map, replicate}
use Rattle.complex_interval.specs.Rect.{rectangle_of}
use Rattle.plain_elimination.specs.Matrix.{nought_rectangle}
use Rattle.certified_inverse.proofs.Products.{CombinedTo}
use Rattle.certified_inverse.proofs.sums.combine_listed.Given as goal

abbrev pub invariant-loop-i : goal.invariant-loop-i
invariant-loop-i g l =
    let rectangle = rectangle_of g.E.Enclosure.ends in
    CombinedTo g.E.Enclosure.SCALE (replicate l.matrix.size nought_rectangle) (map rectangle l.factors) l.matrix.rows (map rectangle l.sums) l.i
