use Rattle.std.proofs.Common.{◌≡◌, map, replicate}
use Rattle.complex_interval.specs.Rect.{rectangle_of}
use Rattle.plain_elimination.specs.Matrix.{nought_rectangle}
use Rattle.middle_inverse.proofs.bench.nought_rows.Given as goal

abbrev pub invariant-loop-row : goal.invariant-loop-row
invariant-loop-row g l = map (λ r. map (rectangle_of g.E.Enclosure.ends) r.items) l.rows.items ≡ replicate l._row (replicate (l.size) nought_rectangle)
