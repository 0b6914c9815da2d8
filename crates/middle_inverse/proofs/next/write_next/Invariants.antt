use Rattle.std.proofs.Common.{◌≤◌, length, map}
use Rattle.sparse_rows.specs.Listed.{ZeroAt}
use Rattle.middle_inverse.specs.Leads.{Leads}
use Rattle.middle_inverse.specs.Points.{rectangle_at}
use Rattle.middle_inverse.proofs.next.write_next.Given as goal

abbrev pub invariant-loop-i : goal.invariant-loop-i
invariant-loop-i l = record { in_range : l.i ≤ length l.row; leads : Leads (ZeroAt (map rectangle_at l.row)) (length l.row) l.i l.next }

abbrev pub decreases-loop-i : goal.decreases-loop-i
decreases-loop-i l = l.i
