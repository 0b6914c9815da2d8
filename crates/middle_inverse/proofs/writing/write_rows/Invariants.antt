use Rattle.std.proofs.Common.{◌≡◌, ◌+◌, length, map}
use Rattle.std.specs.List.{All}
use Rattle.middle_inverse.specs.Points.{rectangle_at}
use Rattle.middle_inverse.specs.Inverse.{with_units}
use Rattle.middle_inverse.proofs.Written.{WrittenTo}
use Rattle.middle_inverse.proofs.writing.write_rows.Given as goal

abbrev pub invariant-loop-i : goal.invariant-loop-i
invariant-loop-i g l = record {
  value : WrittenTo (λ r. map rectangle_at r.items) (with_units g.E.Enclosure.SCALE (length l.matrix.rows) 0 l.matrix.rows) l.rows l.i;
  wide : All (λ r. length r.items ≡ l.matrix.size + l.matrix.size) l.rows;
}
