use Rattle.std.proofs.Common.{◌≡◌, ℕ, length, map}
use Rattle.std.specs.List.{All}
use Rattle.middle_inverse.specs.Points.{rectangle_at}
use Rattle.middle_inverse.proofs.Steps.{ColumnsTo}
use Rattle.middle_inverse.proofs.columns.eliminate_columns.Given as goal

abbrev pub invariant-loop-column : goal.invariant-loop-column
invariant-loop-column g l = record {
  value : ColumnsTo (λ r. map rectangle_at r.items) g.E.Enclosure.SCALE (length l.initial.rows) l.initial.rows l.rows l.column;
  wide : (w : ℕ) → All (λ r. length r.items ≡ w) l.initial.rows → All (λ r. length r.items ≡ w) l.rows;
}
