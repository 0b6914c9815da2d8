use Rattle.std.proofs.Common.{◌≤◌, length, map}
use Rattle.middle_inverse.specs.Points.{rectangle_at}
use Rattle.middle_inverse.specs.Inverse.{size_at}
use Rattle.middle_inverse.proofs.Each.{Found}
use Rattle.middle_inverse.proofs.rows.pivot_place.Given as goal

abbrev pub invariant-loop-i : goal.invariant-loop-i
invariant-loop-i l = record {
  in_range : l.i ≤ length l.rows;
  found : Found (map (size_at l.column) (map (λ r. map rectangle_at r.items) l.rows)) l.i l.place l.greatest;
}

abbrev pub decreases-loop-i : goal.decreases-loop-i
decreases-loop-i l = l.i
