-- The systems worked by hand.
use Rattle.std.proofs.Common.{pos, negsuc, ◌≡◌, List, [], ◌∷◌, length, refl, arith}
use Rattle.std.specs.List.{AllZip}
use Rattle.exact_algebra.specs.Ratio.{Ratio, ◌≈◌, over, whole, ratio_numbers, den, common, plus, times, opposite, magnitude, reciprocal, reciprocal_of}
use Rattle.exact_algebra.specs.Complex.{Complex, complex_numbers, complex_over, complex_whole, complex_plus, complex_times, complex_size, real_part, imaginary_part, ◌≅◌}
use Rattle.exact_algebra.proofs.Ratios.{ratio_field, ratio_ring}
use Rattle.exact_algebra.proofs.Complexes.{complex_field}
use Rattle.exact_algebra.proofs.Reader.{reads, linear, weigh, join, none_left}
use Rattle.linear_systems.specs.Linear.{shrink, dot, Annuls, IsSquare, HasPivots, complement, IsComplement, IsDriven, Solves}
use Rattle.linear_systems.specs.Doubled.{parts_of, real_rows}
use Rattle.linear_systems.specs.Worked.{regular_rows, singular_rows, front_zero_rows, RegularSystem, RegularStep, RegularComplement, SingularSystem, FrontZeroSystem, ResidualSums, ComplexSystem, WorkedSystems}
use Rattle.linear_systems.proofs.Complement as C
use Rattle.linear_systems.proofs.Driving as D
use Rattle.linear_systems.proofs.Solvable as S

square_two : (a b c d : Ratio) → IsSquare ratio_numbers 2 ((a ∷ b ∷ []) ∷ (c ∷ d ∷ []) ∷ [])
square_two a b c d = record { count = refl; widths = (refl, (refl, tt)) }

one_apart : ¬ (whole (pos 1) ≈ whole (pos 0))
unfolding whole den
one_apart h = let e : pos 1 ≡ pos 0 = h.cross in cc

two_apart : ¬ (whole (pos 2) ≈ whole (pos 0))
unfolding whole den
two_apart h = let e : pos 2 ≡ pos 0 = h.cross in cc

half_three_apart : ¬ (over (pos 3) 2 ≈ whole (pos 0))
unfolding whole den
half_three_apart h = let e : pos 3 ≡ pos 0 = h.cross in cc

regular_pivots : HasPivots ratio_numbers 1 regular_rows
regular_pivots = (two_apart, tt)

regular_value : complement ratio_numbers 1 regular_rows ≈ over (pos 3) 2
unfolding whole den common plus times opposite reciprocal reciprocal_of
regular_value = record { cross = refl }

regular_each : (v : Ratio) → IsComplement ratio_numbers 1 regular_rows (over (pos 3) 2) v
regular_each v =
    let c = C.reduction_holds ratio_numbers ratio_field 1 regular_rows (square_two _ _ _ _) regular_pivots v in
    record {
      list = c.list;
      count = c.count;
      ends = c.ends;
      annuls = c.annuls;
      last = ratio_ring.next c.last (ratio_ring.mul_same regular_value (ratio_ring.same v));
      only = c.only;
    }

regular_driven : IsDriven ratio_numbers 1 regular_rows (over (pos 3) 2)
regular_driven = D.driven ratio_numbers ratio_field 1 regular_rows (over (pos 3) 2) refl regular_each half_three_apart

-- 2·(-1/3) + 2/3 = 0 and -1/3 + 2·(2/3) = 1
first_at_thirds : dot ratio_numbers (whole (pos 2) ∷ whole (pos 1) ∷ []) (over (negsuc 0) 3 ∷ over (pos 2) 3 ∷ []) ≈ whole (pos 0)
unfolding whole den common plus times
first_at_thirds = record { cross = refl }

last_at_thirds : dot ratio_numbers (whole (pos 1) ∷ whole (pos 2) ∷ []) (over (negsuc 0) 3 ∷ over (pos 2) 3 ∷ []) ≈ whole (pos 1)
unfolding whole den common plus times
last_at_thirds = record { cross = refl }

regular_complement : RegularComplement
regular_complement = record {
  pivots = regular_pivots;
  value = regular_value;
  each = regular_each;
  driven = regular_driven;
  values = regular_driven.only (over (negsuc 0) 3 ∷ over (pos 2) 3 ∷ []) refl (first_at_thirds, tt) last_at_thirds;
}

-- 2·1 + 2 = 4 and 1 + 2·2 = 5
solves_regular : Solves ratio_numbers regular_rows (whole (pos 1) ∷ whole (pos 2) ∷ []) (whole (pos 4) ∷ whole (pos 5) ∷ [])
unfolding whole den common plus times
solves_regular = (record { cross = refl }, (record { cross = refl }, tt))

regular_system : RegularSystem
regular_system =
    let one = S.injective_is_solvable ratio_numbers ratio_field 2 regular_rows (whole (pos 4) ∷ whole (pos 5) ∷ []) (square_two _ _ _ _) regular_driven.injective refl in
    record {
      square = square_two _ _ _ _;
      injective = regular_driven.injective;
      one = one;
      values = one.only (whole (pos 1) ∷ whole (pos 2) ∷ []) refl solves_regular;
    }

regular_step : RegularStep
unfolding whole den common plus times opposite reciprocal reciprocal_of
regular_step = record {
  half = record { cross = refl };
  smaller = (record { cross = refl }, tt);
  right = (record { cross = refl }, tt);
}

-- 2 + 2·(-1) = 0 and 2·2 + 4·(-1) = 0
annuls_singular : Annuls ratio_numbers singular_rows (whole (pos 2) ∷ whole (negsuc 0) ∷ [])
unfolding whole den common plus times
annuls_singular = (record { cross = refl }, (record { cross = refl }, tt))

four : whole (pos 4) ≈ times (whole (pos 2)) (whole (pos 2))
unfolding whole den common times
four = record { cross = refl }

-- twice the first row's 1 isn't the second row's 0
unsolved : (x : List Ratio) → length x ≡ 2 → ¬ Solves ratio_numbers singular_rows x (whole (pos 1) ∷ whole (pos 0) ∷ [])
unsolved [] l s = absurd (omega arith)
unsolved (a ∷ []) l s = absurd (omega arith)
unsolved (a ∷ b ∷ []) l s =
    two_apart
    (linear ratio_ring (a ∷ b ∷ whole (pos 2) ∷ whole (pos 4) ∷ [])
    (join ratio_ring (weigh ratio_ring (opposite (whole (pos 2))) s.0) (join ratio_ring (weigh ratio_ring (whole (pos 1)) s.1.0) (weigh ratio_ring (opposite b) four)))
    (search reads depth 40 fits 4000) none_left)
unsolved (a ∷ b ∷ c ∷ x) l s = absurd (omega arith)

singular_smaller : AllZip ◌≈◌ (shrink ratio_numbers (whole (pos 1) ∷ whole (pos 2) ∷ []) (whole (pos 2) ∷ whole (pos 4) ∷ [])) (whole (pos 0) ∷ [])
unfolding whole den common plus times opposite reciprocal reciprocal_of
singular_smaller = (record { cross = refl }, tt)

singular_system : SingularSystem
singular_system = record {
  square = square_two _ _ _ _;
  other = record {
    list = whole (pos 2) ∷ whole (negsuc 0) ∷ [];
    count = refl;
    annuls = annuls_singular;
    other = λ z. two_apart z.0;
  };
  values = refl;
  not_injective = λ i. two_apart (i.only (whole (pos 2) ∷ whole (negsuc 0) ∷ []) refl annuls_singular).0;
  smaller = singular_smaller;
  unsolved = unsolved;
}

annuls_front_zero : Annuls ratio_numbers front_zero_rows (whole (pos 1) ∷ whole (pos 0) ∷ [])
unfolding whole den common plus times
annuls_front_zero = (record { cross = refl }, (record { cross = refl }, tt))

front_zero_system : FrontZeroSystem
front_zero_system = record {
  square = square_two _ _ _ _;
  front = (ratio_ring.same _, (ratio_ring.same _, tt));
  other = record {
    list = whole (pos 1) ∷ whole (pos 0) ∷ [];
    count = refl;
    annuls = annuls_front_zero;
    other = λ z. one_apart z.0;
  };
  values = refl;
}

residual_sums : ResidualSums
unfolding whole den common plus times opposite magnitude complex_size real_part imaginary_part
residual_sums = record {
  rows = ((record { cross = refl }, (record { cross = refl }, tt)), ((record { cross = refl }, (record { cross = refl }, tt)), tt));
  sizes = record { cross = refl };
}

abbrev one_row : List (List Complex)
one_row = (complex_over (pos 1) (pos 1) 1 ∷ []) ∷ []

square_one : IsSquare complex_numbers 1 one_row
square_one = record { count = refl; widths = (refl, tt) }

corner_apart : ¬ (complex_over (pos 1) (pos 1) 1 ≅ complex_whole (pos 0))
unfolding complex_whole real_part den
corner_apart h = let e : pos 1 ≡ pos 0 = h.re.cross in cc

-- (1 + j)(1 - j) = 2
solves_corner : dot complex_numbers (complex_over (pos 1) (pos 1) 1 ∷ []) (complex_over (pos 1) (negsuc 0) 1 ∷ []) ≅ complex_whole (pos 2)
unfolding complex_whole complex_plus complex_times real_part imaginary_part den
solves_corner = record { re = record { cross = refl }; im = record { cross = refl } }

-- the rows (1, -1) and (1, 1) of 1 + j
corner_as_real : AllZip (λ r s. AllZip ◌≈◌ r s) (real_rows one_row) ((whole (pos 1) ∷ whole (negsuc 0) ∷ []) ∷ (whole (pos 1) ∷ whole (pos 1) ∷ []) ∷ [])
unfolding whole den opposite real_part imaginary_part
corner_as_real = ((record { cross = refl }, (record { cross = refl }, tt)), ((record { cross = refl }, (record { cross = refl }, tt)), tt))

parts_of_two : AllZip ◌≈◌ (parts_of (complex_whole (pos 2) ∷ [])) (whole (pos 2) ∷ whole (pos 0) ∷ [])
unfolding whole complex_whole den real_part imaginary_part
parts_of_two = (record { cross = refl }, (record { cross = refl }, tt))

complex_system : ComplexSystem
complex_system =
    let d = D.driven complex_numbers complex_field 0 one_row (complex_over (pos 1) (pos 1) 1) refl (C.reduction_holds complex_numbers complex_field 0 one_row square_one tt) corner_apart in
    let one = S.injective_is_solvable complex_numbers complex_field 1 one_row (complex_whole (pos 2) ∷ []) square_one d.injective refl in
    record { one = one; values = one.only (complex_over (pos 1) (negsuc 0) 1 ∷ []) refl (solves_corner, tt); as_real = corner_as_real; right_parts = parts_of_two }

pub worked_systems : WorkedSystems
worked_systems = record {
  regular = regular_system;
  step = regular_step;
  reduced = regular_complement;
  singular = singular_system;
  front_zero = front_zero_system;
  residual = residual_sums;
  in_complex = complex_system;
}
