use Rattle.std.proofs.Common.{Some, get_or, map}
use Rattle.complex_interval.specs.Rect.{rectangle_of}
use Rattle.plain_elimination.specs.Matrix.{nought_rectangle}
use Rattle.certified_inverse.proofs.Placed.{PlacedTo}
use Rattle.drop_bench.proofs.column.copy_column.Given as goal

abbrev pub invariant-loop-i : goal.invariant-loop-i
invariant-loop-i g l = PlacedTo (rectangle_of g.E.Enclosure.ends) (λ row. Some (get_or row l.column nought_rectangle)) (map (λ r. map (rectangle_of g.E.Enclosure.ends) r.items) l.rows) l.values l.i
