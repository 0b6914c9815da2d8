use Rattle.std.proofs.Common.{◌⊎◌, ℕ, ◌<◌, ◌+◌, ◌*◌, map}
use Rattle.complex_interval.specs.Rect.{rectangle_of}
use Rattle.sparse_rows.specs.Listed.{SameAt, CloserTo}
use Rattle.sparse_rows.proofs.load.load_listed.Given as goal

abbrev pub invariant-loop-k : goal.invariant-loop-k
invariant-loop-k g l =
    let rectangle = rectangle_of g.E.Enclosure.ends in
    CloserTo (map rectangle l.source) (map rectangle l.initial.cells) (map rectangle l.cells)
    × ((a b : ℕ) → a < l.size → b < l.size → (a < l.k) ⊎ (b < l.k) → SameAt (map rectangle l.source) (map rectangle l.cells) (a * l.size + b))
