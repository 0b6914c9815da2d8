-- Figures worked by hand.
use Rattle.std.specs.Prelude.{pos, negsuc}
use Rattle.exact_algebra.specs.Ratio.{◌≈◌ as ◌≈ᵣ◌, over, whole, times}
use Rattle.exact_algebra.specs.Complex.{complex_numbers, complex_over, square_size}
use Rattle.network_theory.specs.Impedance.{resistance, series_impedance}
use Rattle.network_theory.specs.DrivingPoint.{in_ohms}
open complex_numbers use {◌≈◌, unit}

-- a resistance at an order, a filter at its tuned order and below, and a base impedance
pub record WorkedFigures : Type 0 where
  -- r = 0.6, k = 0.5 and m = 50 at order 11: 0.6·(1.5 - 25/171)
  pub skin : resistance (over (pos 6) 10) (over (pos 5) 10) (whole (pos 50)) (record { n = 11; d = 1 }) ≈ᵣ over (pos 1389) 1710
  -- a filter of r = 0.1, x = 1 and xc = 25 is tuned to order 5
  pub tuned : series_impedance (over (pos 1) 10) (whole (pos 0)) (whole (pos 1)) (whole (pos 1)) (whole (pos 25)) (record { n = 5; d = 1 }) ≈ complex_over (pos 1) (pos 0) 10
  -- and at order 5/2 it has 0.1 - 7.5j
  pub below : series_impedance (over (pos 1) 10) (whole (pos 0)) (whole (pos 1)) (whole (pos 1)) (whole (pos 25)) (record { n = 5; d = 2 }) ≈ complex_over (pos 1) (negsuc 74) 10
  -- at 33 kV and 100 MVA, 1 per unit has 10.89 ohms
  pub base : square_size (in_ohms (whole (pos 33)) (whole (pos 100)) unit) ≈ᵣ times (over (pos 1089) 100) (over (pos 1089) 100)
