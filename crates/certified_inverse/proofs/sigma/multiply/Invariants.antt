use Rattle.std.proofs.Common.{map}
use Rattle.complex_interval.specs.Rect.{rectangle_of}
use Rattle.certified_inverse.specs.Certificate.{sum_products, nought_rectangle}
use Rattle.certified_inverse.proofs.Placed.{PlacedTo}
use Rattle.certified_inverse.proofs.sigma.multiply.Given as goal

abbrev pub invariant-loop-i : goal.invariant-loop-i
invariant-loop-i g l =
    let rectangle = rectangle_of g.E.Enclosure.ends in
    PlacedTo rectangle (λ row. sum_products g.E.Enclosure.SCALE nought_rectangle row (map rectangle l.x)) l.matrix.rows l.values l.i
