use Rattle.std.proofs.Common.{◌≤◌, ◌<◌, ◌-◌, length, get_or}
use Rattle.complex_interval.specs.Rect.{rectangle_of}
use Rattle.plain_elimination.specs.Rectangles.{rectangles}
use Rattle.plain_elimination.proofs.Rests.{TakenTo}
use Rattle.sparse_rows.proofs.back.take_away_listed.Given as goal

abbrev pub invariant-loop-i : goal.invariant-loop-i
invariant-loop-i g l =
    let rectangle = rectangle_of g.E.Enclosure.ends in
    (l.i ≤ length l.row)
    × (l.i < length l.row → 1 ≤ get_or l.gaps l.i 0)
    × TakenTo (rectangles g.E.Enclosure.SCALE) rectangle (rectangle l.fn.b) l.row l.xs (rectangle l.rest) l.i

abbrev pub decreases-loop-i : goal.decreases-loop-i
decreases-loop-i g l = length l.row - l.i
