-- Systems worked by hand, for the definitions to be compared with.
use Rattle.std.specs.Prelude.{◌≡◌, List, [], ◌∷◌, length, pos, negsuc}
use Rattle.std.specs.List.{AllZip, AllByRecursion}
use Rattle.exact_algebra.specs.Ratio.{Ratio, ◌≈◌, over, whole, ratio_numbers}
use Rattle.exact_algebra.specs.Complex.{complex_numbers, complex_size, complex_over, complex_whole, ◌≅◌}
use Rattle.linear_systems.specs.Linear.{head_of, factor, shrink, shrink_right, IsSquare, IsInjective, HasOneSolution, HasOtherSolution, HasPivots, complement, IsComplement, IsDriven, Solves}
use Rattle.linear_systems.specs.Doubled.{parts_of, real_rows}
use Rattle.linear_systems.specs.Residual.{residuals, unit_rows, sum_sizes}

-- the rows (2, 1) and (1, 2)
abbrev pub regular_rows : List (List Ratio)
regular_rows = (whole (pos 2) ∷ whole (pos 1) ∷ []) ∷ (whole (pos 1) ∷ whole (pos 2) ∷ []) ∷ []

-- the rows (1, 2) and (2, 4)
abbrev pub singular_rows : List (List Ratio)
singular_rows = (whole (pos 1) ∷ whole (pos 2) ∷ []) ∷ (whole (pos 2) ∷ whole (pos 4) ∷ []) ∷ []

-- the rows (0, 1) and (0, 2)
abbrev pub front_zero_rows : List (List Ratio)
front_zero_rows = (whole (pos 0) ∷ whole (pos 1) ∷ []) ∷ (whole (pos 0) ∷ whole (pos 2) ∷ []) ∷ []

-- 2x + y = 4 and x + 2y = 5
pub record RegularSystem : Type 0 where
  pub square : IsSquare ratio_numbers 2 regular_rows
  pub injective : IsInjective ratio_numbers 2 regular_rows
  pub one : HasOneSolution ratio_numbers 2 regular_rows (whole (pos 4) ∷ whole (pos 5) ∷ [])
  -- x = 1 and y = 2
  pub values : AllZip ◌≈◌ (whole (pos 1) ∷ whole (pos 2) ∷ []) one.solution

-- one step of the elimination of these rows
pub record RegularStep : Type 0 where
  -- the second row less half the first leaves 3/2, and the right side 5 leaves 3
  pub half : factor ratio_numbers (whole (pos 2) ∷ whole (pos 1) ∷ []) (whole (pos 1) ∷ whole (pos 2) ∷ []) ≈ over (pos 1) 2
  pub smaller : AllZip ◌≈◌ (shrink ratio_numbers (whole (pos 2) ∷ whole (pos 1) ∷ []) (whole (pos 1) ∷ whole (pos 2) ∷ [])) (over (pos 3) 2 ∷ [])
  pub right : AllZip ◌≈◌ (shrink_right ratio_numbers (whole (pos 2) ∷ whole (pos 1) ∷ []) (whole (pos 4)) ((whole (pos 1) ∷ whole (pos 2) ∷ []) ∷ []) (whole (pos 5) ∷ [])) (whole (pos 3) ∷ [])

-- the complement of the rows (2, 1) and (1, 2) is 3/2
pub record RegularComplement : Type 0 where
  pub pivots : HasPivots ratio_numbers 1 regular_rows
  pub value : complement ratio_numbers 1 regular_rows ≈ over (pos 3) 2
  pub each : (v : Ratio) → IsComplement ratio_numbers 1 regular_rows (over (pos 3) 2) v
  -- the list that makes the first row 0 and the last 1 is (-1/3, 2/3)
  pub driven : IsDriven ratio_numbers 1 regular_rows (over (pos 3) 2)
  pub values : AllZip ◌≈◌ (over (negsuc 0) 3 ∷ over (pos 2) 3 ∷ []) driven.list

-- x + 2y and 2x + 4y are zero at x = 2 and y = -1 too, and 1 and 0 at no x and y
pub record SingularSystem : Type 0 where
  pub square : IsSquare ratio_numbers 2 singular_rows
  pub other : HasOtherSolution ratio_numbers 2 singular_rows
  pub values : other.list ≡ whole (pos 2) ∷ whole (negsuc 0) ∷ []
  pub not_injective : ¬ IsInjective ratio_numbers 2 singular_rows
  -- the second row less twice the first leaves 0
  pub smaller : AllZip ◌≈◌ (shrink ratio_numbers (whole (pos 1) ∷ whole (pos 2) ∷ []) (whole (pos 2) ∷ whole (pos 4) ∷ [])) (whole (pos 0) ∷ [])
  pub unsolved : (x : List Ratio) → length x ≡ 2 → ¬ Solves ratio_numbers singular_rows x (whole (pos 1) ∷ whole (pos 0) ∷ [])

-- rows that all begin with zero are zero at (1, 0)
pub record FrontZeroSystem : Type 0 where
  pub square : IsSquare ratio_numbers 2 front_zero_rows
  pub front : AllByRecursion (λ r. head_of ratio_numbers r ≈ whole (pos 0)) front_zero_rows
  pub other : HasOtherSolution ratio_numbers 2 front_zero_rows
  pub values : other.list ≡ whole (pos 1) ∷ whole (pos 0) ∷ []

-- with halves on the diagonal as the inverse of (2, 1) and (1, 2), what is left of the unit is -1/2 off the diagonal, so that each row sum is 1/2
pub record ResidualSums : Type 0 where
  pub rows : AllZip (λ r s. AllZip ◌≈◌ r s)
      (residuals ratio_numbers ((over (pos 1) 2 ∷ whole (pos 0) ∷ []) ∷ (whole (pos 0) ∷ over (pos 1) 2 ∷ []) ∷ []) regular_rows (unit_rows ratio_numbers 2))
      ((whole (pos 0) ∷ over (negsuc 0) 2 ∷ []) ∷ (over (negsuc 0) 2 ∷ whole (pos 0) ∷ []) ∷ [])
  -- and for complex numbers a row's sum adds the sizes of both parts: 3/2 and 2 of (1 - 2j)/2 and 2j
  pub sizes : sum_sizes complex_numbers ratio_numbers complex_size (complex_over (pos 1) (negsuc 1) 2 ∷ complex_over (pos 0) (pos 2) 1 ∷ []) ≈ over (pos 7) 2

-- (1 + j) x = 2
pub record ComplexSystem : Type 0 where
  pub one : HasOneSolution complex_numbers 1 ((complex_over (pos 1) (pos 1) 1 ∷ []) ∷ []) (complex_whole (pos 2) ∷ [])
  -- x = 1 - j
  pub values : AllZip ◌≅◌ (complex_over (pos 1) (negsuc 0) 1 ∷ []) one.solution
  -- as a real system: u - v = 2 and u + v = 0
  pub as_real : AllZip (λ r s. AllZip ◌≈◌ r s) (real_rows ((complex_over (pos 1) (pos 1) 1 ∷ []) ∷ []))
      ((whole (pos 1) ∷ whole (negsuc 0) ∷ []) ∷ (whole (pos 1) ∷ whole (pos 1) ∷ []) ∷ [])
  pub right_parts : AllZip ◌≈◌ (parts_of (complex_whole (pos 2) ∷ [])) (whole (pos 2) ∷ whole (pos 0) ∷ [])

-- all of these
pub record WorkedSystems : Type 0 where
  pub regular : RegularSystem
  pub step : RegularStep
  pub reduced : RegularComplement
  pub singular : SingularSystem
  pub front_zero : FrontZeroSystem
  pub residual : ResidualSums
  pub in_complex : ComplexSystem
