use Rattle.std.proofs.Common.{◌≡◌, ℕ, ◌≤◌, ◌<◌, ◌+◌, ◌*◌, ◌-◌, ◌⊎◌, List, length, map, get_or}
use Rattle.complex_interval.specs.Rect.{rectangle_of}
use Rattle.plain_elimination.specs.Matrix.{nought_rectangle}
use Rattle.plain_elimination.specs.Rectangles.{rectangles}
use Rattle.plain_elimination.proofs.Layouts.{EliminatedTo}
use Rattle.sparse_rows.specs.Listed.{ZeroAt, Out, ZeroOutside}
use Rattle.sparse_rows.proofs.rows.eliminate_rows.Given as goal

abbrev pub invariant-loop-i : goal.invariant-loop-i
invariant-loop-i g l =
    let rectangle = rectangle_of g.E.Enclosure.ends in
    (l.i ≤ length l.first)
    × (l.i < length l.first → 1 ≤ get_or l.gaps l.i 0)
    × EliminatedTo (rectangles g.E.Enclosure.SCALE) rectangle (rectangle l.pivot) l.first l.initial.later l.later (length l.first) l.size l.column l.i
    × ((r : ℕ) → r < length l.first → get_or (map rectangle l.later) (r * l.size + l.column) nought_rectangle ≡ get_or (map rectangle l.initial.later) (r * l.size + l.column) nought_rectangle)
    × ((all : List ℕ) → ZeroOutside all (map rectangle l.initial.later)
    → ((r j : ℕ) → r < length l.first → j < length l.first → Out all (r * l.size + l.column + 1 + j) → ZeroAt (map rectangle l.first) j ⊎ Out all (r * l.size + l.column))
    → ZeroOutside all (map rectangle l.later))

abbrev pub decreases-loop-i : goal.decreases-loop-i
decreases-loop-i g l = length l.first - l.i
