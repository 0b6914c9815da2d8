use Rattle.std.proofs.Common.{slice_get}
use Rattle.complex_interval.specs.Rect.{rectangle_of}
use Rattle.certified_inverse.proofs.Placed.{PlacedTo}
use Rattle.certified_inverse.proofs.sigma.copy_column.Given as goal

abbrev pub invariant-loop-i : goal.invariant-loop-i
invariant-loop-i g l = PlacedTo (rectangle_of g.E.Enclosure.ends) (λ row. slice_get row l.column) l.inverse.rows l.x l.i
