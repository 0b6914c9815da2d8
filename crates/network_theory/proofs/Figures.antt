-- Figures worked by hand, by computing.
use Rattle.exact_algebra.specs.Ratio.{den, whole, times, plus, opposite, common, reciprocal, reciprocal_of}
use Rattle.exact_algebra.specs.Complex.{real_part, imaginary_part, complex_times, complex_whole, real, ◌+j◌, square_size}
use Rattle.network_theory.specs.Impedance.{resistance, reactance, series_impedance}
use Rattle.network_theory.specs.DrivingPoint.{in_ohms}
use Rattle.network_theory.specs.Figures.{WorkedFigures}
use Rattle.std.proofs.Common.{refl}

pub worked_figures : WorkedFigures
unfolding resistance reactance series_impedance in_ohms square_size real ◌+j◌ times plus opposite whole common den reciprocal reciprocal_of complex_times complex_whole real_part imaginary_part
worked_figures = record {
  skin = record { cross = refl };
  tuned = record { re = record { cross = refl }; im = record { cross = refl } };
  below = record { re = record { cross = refl }; im = record { cross = refl } };
  base = record { cross = refl };
}
