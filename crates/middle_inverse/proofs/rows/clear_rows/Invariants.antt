use Rattle.std.proofs.Common.{◌≡◌, ℕ, length, map}
use Rattle.std.specs.List.{All}
use Rattle.middle_inverse.specs.Points.{rectangle_at}
use Rattle.middle_inverse.specs.Inverse.{cleared_row}
use Rattle.middle_inverse.proofs.Each.{EachTo}
use Rattle.middle_inverse.proofs.rows.clear_rows.Given as goal

abbrev pub invariant-loop-i : goal.invariant-loop-i
invariant-loop-i g l =
    let rectangle = rectangle_at in
    record {
      value : EachTo (λ r. map rectangle r.items) (cleared_row g.E.Enclosure.SCALE l.column (map rectangle l.first)) l.initial.rows l.rows l.i;
      wide : (w : ℕ) → All (λ r. length r.items ≡ w) l.initial.rows → All (λ r. length r.items ≡ w) l.rows;
    }
