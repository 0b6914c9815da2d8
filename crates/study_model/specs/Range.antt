-- A decimal in a range.
use Rattle.std.specs.Prelude.{ℤ, ◌≤ℤ◌}
use Rattle.study_model.specs.declared.range.Range.{Range}

-- a decimal from the range's low end to its high end
abbrev pub IsIn : Range → ℤ → Type 0
IsIn range decimal = (range.low ≤ℤ decimal) × (decimal ≤ℤ range.high)
