use Rattle.std.proofs.Common.{◌≤◌, ◌<◌, get_or, ◌-◌, length, map}
use Rattle.complex_interval.specs.Rect.{rectangle_of}
use Rattle.plain_elimination.specs.Rectangles.{rectangles}
use Rattle.plain_elimination.proofs.Sweeps.{SweptTo}
use Rattle.sparse_rows.specs.Listed.{ZeroAt, Agree}
use Rattle.sparse_rows.proofs.row.sweep_listed.Given as goal

abbrev pub invariant-loop-i : goal.invariant-loop-i
invariant-loop-i g l =
    (l.i ≤ length l.row)
    × (l.i < length l.row → 1 ≤ get_or l.gaps l.i 0)
    × SweptTo (rectangles g.E.Enclosure.SCALE) (rectangle_of g.E.Enclosure.ends) (rectangle_of g.E.Enclosure.ends l.f) l.first l.initial.row l.row l.i
    × Agree (ZeroAt (map (rectangle_of g.E.Enclosure.ends) l.first)) (map (rectangle_of g.E.Enclosure.ends) l.row) (map (rectangle_of g.E.Enclosure.ends) l.initial.row)

abbrev pub decreases-loop-i : goal.decreases-loop-i
decreases-loop-i g l = length l.row - l.i
