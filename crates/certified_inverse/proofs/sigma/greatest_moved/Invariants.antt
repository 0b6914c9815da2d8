use Rattle.std.proofs.Common.{List, drop, map}
use Rattle.complex_interval.specs.Rectangles.{Rectangle}
use Rattle.complex_interval.specs.Rect.{rectangle_of}
use Rattle.certified_inverse.specs.Certificate.{each, size_of, sum_products, nought_rectangle}
use Rattle.certified_inverse.proofs.Greatest.{GreatestTo}
use Rattle.certified_inverse.proofs.sigma.greatest_moved.Given as goal

abbrev pub invariant-loop-i : goal.invariant-loop-i
invariant-loop-i g l =
    let f = λ (row : List Rectangle). sum_products g.E.Enclosure.SCALE nought_rectangle row (map (rectangle_of g.E.Enclosure.ends) l.left) in
    GreatestTo size_of (each f l.inverse.rows) l.sigma (each f (drop l.i l.inverse.rows))
