-- Estimates of the code as contracts see them.
use Rattle.std.specs.Prelude.{ℕ, List}
use Rattle.complex_interval.specs.Ends.{Ends}
use Rattle.complex_interval.specs.Rectangles.{Rectangle}
use Rattle.complex_interval.specs.Rect.{rectangle_of}
use Rattle.branchwise_test.specs.Enclosed.{Near as NearEnds, Found}
use Rattle.branchwise_test.specs.Reach.{Contraction as ContractionNumbers}
use Rattle.drop_bench.specs.Columns.{column_of, columns}
use Rattle.drop_bench.specs.declared.near.Near.{Near}
use Rattle.drop_bench.specs.declared.near.Contraction.{Contraction}

-- by the ends of its numbers
abbrev pub near_of : {E : Type 0} → (E → Ends) → Near E → NearEnds
near_of ends n = record { estimate = rectangle_of ends n.estimate; error = n.error }

abbrev pub contraction_of : Contraction → ContractionNumbers
contraction_of c = record { theta = c.theta; edge = c.edge; last = c.last }

-- what was found, where the voltages of so many drops are the columns of rows, and the drops and the numbers stand
abbrev pub found_by : ℕ → List (List Rectangle) → ℕ → List Rectangle → ContractionNumbers → Found
found_by count rows driven drops c = record { voltages = columns count rows; column = column_of driven rows; drops = drops; contraction = c }
