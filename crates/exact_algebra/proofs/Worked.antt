-- The numbers worked by hand.
use Rattle.std.proofs.Common.{pos, ◌≤ℤ◌, refl, arith}
use Rattle.std.proofs.lemmas.Int.{ints}
use Rattle.exact_algebra.specs.Ratio.{den, common, plus, times, opposite, reciprocal, reciprocal_of, magnitude}
use Rattle.exact_algebra.specs.Complex.{real, ◌+j◌, real_part, imaginary_part, complex_plus, complex_times, complex_opposite, complex_scaled, complex_reciprocal, square_size, complex_size}
use Rattle.exact_algebra.specs.Worked.{WorkedRatios, WorkedComplexes, WorkedFloors, WorkedNumbers}

worked_ratios : WorkedRatios
unfolding den common plus times opposite reciprocal reciprocal_of magnitude
worked_ratios = record {
  sum = record { cross = refl };
  less = record { cross = refl };
  product = record { cross = refl };
  inverse = record { cross = refl };
  size = record { cross = refl };
  below = record { cross = omega (arith, ints) };
  at_most = record { cross = omega (arith, ints) };
  not_at_most = λ h. let e : pos 3 ≤ℤ pos 2 = h.cross in omega (arith, ints);
  held = record { from = omega (arith, ints); to = omega (arith, ints) };
  not_held = λ h. let e : pos 8 ≤ℤ pos 6 = h.from in omega (arith, ints);
}

worked_complexes : WorkedComplexes
unfolding den common plus times opposite magnitude real ◌+j◌ real_part imaginary_part complex_plus complex_times complex_opposite complex_scaled complex_reciprocal square_size complex_size
worked_complexes = record {
  parts = record { re = record { cross = refl }; im = record { cross = refl } };
  real_one = record { re = record { cross = refl }; im = record { cross = refl } };
  sum = record { re = record { cross = refl }; im = record { cross = refl } };
  less = record { re = record { cross = refl }; im = record { cross = refl } };
  product = record { re = record { cross = refl }; im = record { cross = refl } };
  multiple = record { re = record { cross = refl }; im = record { cross = refl } };
  inverse = record { re = record { cross = refl }; im = record { cross = refl } };
  square = record { cross = refl };
  size = record { cross = refl };
}

worked_floors : WorkedFloors
worked_floors = record { down = refl; up = refl; even = refl; down_along = refl; up_along = refl }

pub worked_numbers : WorkedNumbers
worked_numbers = record { ratios = worked_ratios; complexes = worked_complexes; floors = worked_floors }
