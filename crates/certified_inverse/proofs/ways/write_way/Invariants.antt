use Rattle.std.proofs.Common.{◌≤◌, length, map}
use Rattle.sparse_rows.specs.Listed.{ZeroAt}
use Rattle.middle_inverse.specs.Leads.{Leads}
use Rattle.complex_interval.specs.Rect.{rectangle_of}
use Rattle.certified_inverse.proofs.ways.write_way.Given as goal

abbrev pub invariant-loop-i : goal.invariant-loop-i
invariant-loop-i g l = record { in_range : l.i ≤ length l.row; leads : Leads (ZeroAt (map (rectangle_of g.E.Enclosure.ends) l.row)) (length l.row) l.i l.next }

abbrev pub decreases-loop-i : goal.decreases-loop-i
decreases-loop-i g l = l.i
