use Rattle.std.proofs.Common.{ℕ, ◌≤◌, ◌<◌, ◌+◌, ◌*◌, ◌-◌, map, get_or}
use Rattle.complex_interval.specs.Rect.{rectangle_of}
use Rattle.sparse_rows.specs.Listed.{SameAt, CloserTo}
use Rattle.sparse_rows.proofs.load.load_row.Given as goal

abbrev pub invariant-loop-j : goal.invariant-loop-j
invariant-loop-j g l =
    let rectangle = rectangle_of g.E.Enclosure.ends in
    (l.k ≤ l.j)
    × (l.j ≤ l.size)
    × (l.j < l.size → 1 ≤ get_or l.gaps (l.k * l.size + l.j) 0)
    × CloserTo (map rectangle l.source) (map rectangle l.initial.cells) (map rectangle l.cells)
    × ((i : ℕ) → l.k ≤ i → i < l.j → SameAt (map rectangle l.source) (map rectangle l.cells) (l.k * l.size + i))
    × ((i : ℕ) → l.k ≤ i → i < l.j → SameAt (map rectangle l.source) (map rectangle l.cells) (i * l.size + l.k))

abbrev pub decreases-loop-j : goal.decreases-loop-j
decreases-loop-j g l = l.size - l.j
