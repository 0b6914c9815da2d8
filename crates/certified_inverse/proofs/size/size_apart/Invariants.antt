use Rattle.std.proofs.Common.{◌≤◌, ◌*◌, map}
use Rattle.complex_interval.specs.Rect.{rectangle_of}
use Rattle.certified_inverse.proofs.Products.{SizedTo}
use Rattle.certified_inverse.proofs.size.size_apart.Given as goal

abbrev pub invariant-loop-i : goal.invariant-loop-i
invariant-loop-i g l =
    let rectangle = rectangle_of g.E.Enclosure.ends in
    record { value : SizedTo (map rectangle l.row) (map rectangle l.other) l.total l.i; bound : l.total ≤ l.i * 18446744073709551616 }
