-- Numbers worked by hand, for the definitions to be compared with.
use Rattle.std.specs.Prelude.{◌≡◌, pos, negsuc}
use Rattle.exact_algebra.specs.Ratio.{◌≈◌, ◌≼◌, ◌≺◌, over, plus, difference, times, reciprocal, magnitude, Holds}
use Rattle.exact_algebra.specs.Complex.{◌≅◌, ◌+j◌, real, complex_over, complex_plus, complex_difference, complex_times, complex_scaled, complex_reciprocal, square_size, complex_size}
use Rattle.exact_algebra.specs.Floor.{floor_div, ceil_div, floor_quotient, ceil_quotient}

-- fractions
pub record WorkedRatios : Type 0 where
  -- 1/2 + 1/3 = 5/6
  pub sum : plus (over (pos 1) 2) (over (pos 1) 3) ≈ over (pos 5) 6
  -- 1/2 - 1/3 = 1/6
  pub less : difference (over (pos 1) 2) (over (pos 1) 3) ≈ over (pos 1) 6
  -- 2/3 · -3/4 = -1/2
  pub product : times (over (pos 2) 3) (over (negsuc 2) 4) ≈ over (negsuc 0) 2
  -- 1/(-2/3) = -3/2
  pub inverse : reciprocal (over (negsuc 1) 3) ≈ over (negsuc 2) 2
  -- |-2/3| = 2/3
  pub size : magnitude (over (negsuc 1) 3) ≈ over (pos 2) 3
  -- -1/2 < 1/3, 2/4 ≤ 1/2, and not 1/2 ≤ 1/3
  pub below : over (negsuc 0) 2 ≺ over (pos 1) 3
  pub at_most : over (pos 2) 4 ≼ over (pos 1) 2
  pub not_at_most : ¬ (over (pos 1) 2 ≼ over (pos 1) 3)
  -- 1 ≤ 3/4 · 2 ≤ 2, and not 2 ≤ 3/4 · 2
  pub held : Holds (pos 1) (pos 2) 1 (over (pos 3) 4)
  pub not_held : ¬ Holds (pos 2) (pos 2) 1 (over (pos 3) 4)

-- complex fractions
pub record WorkedComplexes : Type 0 where
  -- 1/2 + j/3 = (3 + 2j)/6
  pub parts : (over (pos 1) 2 +j over (pos 1) 3) ≅ complex_over (pos 3) (pos 2) 6
  pub real_one : real (over (pos 1) 2) ≅ complex_over (pos 1) (pos 0) 2
  -- (1 + 2j)/2 + (1 - j)/3 = (5 + 4j)/6
  pub sum : complex_plus (complex_over (pos 1) (pos 2) 2) (complex_over (pos 1) (negsuc 0) 3) ≅ complex_over (pos 5) (pos 4) 6
  -- (1 + 2j)/2 - (1 - j)/3 = (1 + 8j)/6
  pub less : complex_difference (complex_over (pos 1) (pos 2) 2) (complex_over (pos 1) (negsuc 0) 3) ≅ complex_over (pos 1) (pos 8) 6
  -- (1 + 2j)(3 - j) = 5 + 5j
  pub product : complex_times (complex_over (pos 1) (pos 2) 1) (complex_over (pos 3) (negsuc 0) 1) ≅ complex_over (pos 5) (pos 5) 1
  -- (1 + 2j)/2 · 2/3 = (1 + 2j)/3
  pub multiple : complex_scaled (complex_over (pos 1) (pos 2) 2) (over (pos 2) 3) ≅ complex_over (pos 1) (pos 2) 3
  -- 1/(1 + j) = (1 - j)/2
  pub inverse : complex_reciprocal (complex_over (pos 1) (pos 1) 1) ≅ complex_over (pos 1) (negsuc 0) 2
  -- of (3 - 4j)/2 the square of the size is 25/4, and the sum of the sizes of both parts is 7/2
  pub square : square_size (complex_over (pos 3) (negsuc 3) 2) ≈ over (pos 25) 4
  pub size : complex_size (complex_over (pos 3) (negsuc 3) 2) ≈ over (pos 7) 2

-- whole quotients
pub record WorkedFloors : Type 0 where
  -- -7/2 is between -4 and -3
  pub down : floor_div (negsuc 6) 2 ≡ negsuc 3
  pub up : ceil_div (negsuc 6) 2 ≡ negsuc 2
  pub even : ceil_div (negsuc 5) 2 ≡ negsuc 2
  -- 7/(-2) is too
  pub down_along : floor_quotient (pos 7) (negsuc 1) ≡ negsuc 3
  pub up_along : ceil_quotient (pos 7) (negsuc 1) ≡ negsuc 2

-- all of these
pub record WorkedNumbers : Type 0 where
  pub ratios : WorkedRatios
  pub complexes : WorkedComplexes
  pub floors : WorkedFloors
