-- Drops of the code as contracts see them.
use Rattle.std.specs.Prelude.{ℕ, ◌<◌, map, All}
use Rattle.complex_interval.specs.Ends.{Ends}
use Rattle.complex_interval.specs.Rect.{rectangle_of}
use Rattle.plain_elimination.specs.Matrix.{nought_rectangle}
use Rattle.admittance_box.specs.Intervals.{placed_ends, pair_ends}
use Rattle.branchwise_test.specs.Drops.{DropEnds}
use Rattle.drop_bench.specs.declared.drops.DropIntervals.{DropIntervals}

-- by the ends of its numbers
abbrev pub drop_ends : {E : Type 0} → (E → Ends) → DropIntervals E → DropEnds
drop_ends ends d = record { taps = map (placed_ends ends) d.taps.items; pairs = map (pair_ends ends) d.pairs.items; middle = rectangle_of ends d.middle; rest = rectangle_of ends d.rest }

-- the places of the pairs of taps are below a size
abbrev pub IsInside : {E : Type 0} → ℕ → DropIntervals E → Type 0
IsInside size d = All (λ p. (p.row < size) × (p.column < size)) d.pairs.items

-- a drop without what counts at it
abbrev pub bare : DropEnds → DropEnds
bare d = record { taps = d.taps; pairs = d.pairs; middle = nought_rectangle; rest = nought_rectangle }
