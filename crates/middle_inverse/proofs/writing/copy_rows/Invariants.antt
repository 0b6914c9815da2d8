use Rattle.std.proofs.Common.{◌≡◌, drop, length, map}
use Rattle.std.specs.List.{All}
use Rattle.complex_interval.specs.Rect.{rectangle_of}
use Rattle.middle_inverse.specs.Points.{rectangle_at}
use Rattle.middle_inverse.proofs.Written.{WrittenTo}
use Rattle.middle_inverse.proofs.writing.copy_rows.Given as goal

abbrev pub invariant-loop-i : goal.invariant-loop-i
invariant-loop-i g l = record {
  value : WrittenTo (λ r. map (rectangle_of g.E.Enclosure.ends) r.items) (map (λ row. drop l.size row) (map (λ r. map rectangle_at r.items) l.from)) l.rows l.i;
  wide : All (λ r. length r.items ≡ l.size) l.rows;
}
