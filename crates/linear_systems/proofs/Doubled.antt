-- A complex system of n rows says what the real one of 2n says.
use Rattle.std.proofs.Common.{◌≡◌, ℕ, zero, suc, ◌+◌, pos, List, [], ◌∷◌, length, refl, ap, arith}
use Rattle.std.specs.List.{AllZip, AllByRecursion}
use Rattle.exact_algebra.specs.Ratio.{Ratio, ◌≈◌, ratio_numbers, opposite, whole}
use Rattle.exact_algebra.specs.Complex.{Complex, ◌≅◌, ◌+j◌, real_part, imaginary_part, complex_numbers, complex_plus, complex_times, complex_whole}
use Rattle.exact_algebra.proofs.Ratios.{ratio_ring, ratio_field}
use Rattle.exact_algebra.proofs.Complexes.{re-complex_plus, im-complex_plus, re-complex_times, im-complex_times, re-complex_whole, im-complex_whole}
use Rattle.exact_algebra.proofs.Reals.{re-plus_j, im-plus_j}
use Rattle.exact_algebra.proofs.Reader.{reads, linear, weigh, join, none_left}
use Rattle.linear_systems.specs.Linear.{dot, IsZeroList, Annuls, Solves}
use Rattle.linear_systems.specs.Doubled.{parts_of, real_row, imaginary_row, real_rows, HasParts, ComplexAsReal}
use Rattle.linear_systems.proofs.Complement as C

abbrev one : Ratio
one = whole (pos 1)

-- a row's real part at x
dot-real_row : (r x : List Complex) → dot ratio_numbers (real_row r) (parts_of x) ≈ real_part (dot complex_numbers r x)
dot-real_row [] x = ratio_ring.back (re-complex_whole (pos 0))
dot-real_row (z ∷ r) [] = ratio_ring.back (re-complex_whole (pos 0))
dot-real_row (z ∷ r) (w ∷ x) =
    let d = dot complex_numbers r x in
    linear ratio_ring
    (real_part z ∷ imaginary_part z ∷ real_part w ∷ imaginary_part w ∷ dot ratio_numbers (real_row r) (parts_of x) ∷ real_part d ∷ real_part (complex_times z w) ∷ real_part (complex_plus (complex_times z w) d) ∷ [])
    (join ratio_ring (weigh ratio_ring one (dot-real_row r x)) (join ratio_ring (weigh ratio_ring (opposite one) (re-complex_plus (complex_times z w) d)) (weigh ratio_ring (opposite one) (re-complex_times z w))))
    (search reads depth 40 fits 4000) none_left

-- a row's imaginary part at x
dot-imaginary_row : (r x : List Complex) → dot ratio_numbers (imaginary_row r) (parts_of x) ≈ imaginary_part (dot complex_numbers r x)
dot-imaginary_row [] x = ratio_ring.back (im-complex_whole (pos 0))
dot-imaginary_row (z ∷ r) [] = ratio_ring.back (im-complex_whole (pos 0))
dot-imaginary_row (z ∷ r) (w ∷ x) =
    let d = dot complex_numbers r x in
    linear ratio_ring
    (real_part z ∷ imaginary_part z ∷ real_part w ∷ imaginary_part w ∷ dot ratio_numbers (imaginary_row r) (parts_of x) ∷ imaginary_part d ∷ imaginary_part (complex_times z w) ∷ imaginary_part (complex_plus (complex_times z w) d) ∷ [])
    (join ratio_ring (weigh ratio_ring one (dot-imaginary_row r x)) (join ratio_ring (weigh ratio_ring (opposite one) (im-complex_plus (complex_times z w) d)) (weigh ratio_ring (opposite one) (im-complex_times z w))))
    (search reads depth 40 fits 4000) none_left

-- both parts of an equation
part_real : (r x : List Complex) (b : Complex) → dot complex_numbers r x ≅ b → dot ratio_numbers (real_row r) (parts_of x) ≈ real_part b
part_real r x b h = ratio_ring.next (dot-real_row r x) h.re

part_imaginary : (r x : List Complex) (b : Complex) → dot complex_numbers r x ≅ b → dot ratio_numbers (imaginary_row r) (parts_of x) ≈ imaginary_part b
part_imaginary r x b h = ratio_ring.next (dot-imaginary_row r x) h.im

of_parts : (r x : List Complex) (b : Complex) → dot ratio_numbers (real_row r) (parts_of x) ≈ real_part b → dot ratio_numbers (imaginary_row r) (parts_of x) ≈ imaginary_part b → dot complex_numbers r x ≅ b
of_parts r x b h k = record {
  re = ratio_ring.next (ratio_ring.back (dot-real_row r x)) h;
  im = ratio_ring.next (ratio_ring.back (dot-imaginary_row r x)) k;
}

to_real : (rows : List (List Complex)) (x right : List Complex) → Solves complex_numbers rows x right → Solves ratio_numbers (real_rows rows) (parts_of x) (parts_of right)
to_real [] x [] h = tt
to_real [] x (b ∷ right) h = absurd h
to_real (r ∷ rows) x [] h = absurd h
to_real (r ∷ rows) x (b ∷ right) h = (part_real r x b h.0, (part_imaginary r x b h.0, to_real rows x right h.1))

to_complex : (rows : List (List Complex)) (x right : List Complex) → Solves ratio_numbers (real_rows rows) (parts_of x) (parts_of right) → Solves complex_numbers rows x right
to_complex [] x [] h = tt
to_complex [] x (b ∷ right) h = absurd h
to_complex (r ∷ rows) x [] h = absurd h
to_complex (r ∷ rows) x (b ∷ right) h = (of_parts r x b h.0 h.1.0, to_complex rows x right h.1.1)

-- the parts of zero are zero
annuls_real : (rows : List (List Complex)) (x : List Complex) → Annuls complex_numbers rows x → Annuls ratio_numbers (real_rows rows) (parts_of x)
annuls_real [] x h = tt
annuls_real (r ∷ rows) x h = (
  ratio_ring.next (part_real r x (complex_whole (pos 0)) h.0) (re-complex_whole (pos 0)),
  (ratio_ring.next (part_imaginary r x (complex_whole (pos 0)) h.0) (im-complex_whole (pos 0)), annuls_real rows x h.1),
)

annuls_complex : (rows : List (List Complex)) (x : List Complex) → Annuls ratio_numbers (real_rows rows) (parts_of x) → Annuls complex_numbers rows x
annuls_complex [] x h = tt
annuls_complex (r ∷ rows) x h = (
  of_parts r x (complex_whole (pos 0)) (ratio_ring.next h.0 (ratio_ring.back (re-complex_whole (pos 0)))) (ratio_ring.next h.1.0 (ratio_ring.back (im-complex_whole (pos 0)))),
  annuls_complex rows x h.1.1,
)

zero_parts : (x : List Complex) → IsZeroList complex_numbers x → IsZeroList ratio_numbers (parts_of x)
zero_parts [] h = tt
zero_parts (z ∷ x) h = (ratio_ring.next h.0.re (re-complex_whole (pos 0)), (ratio_ring.next h.0.im (im-complex_whole (pos 0)), zero_parts x h.1))

zero_of_parts : (x : List Complex) → IsZeroList ratio_numbers (parts_of x) → IsZeroList complex_numbers x
zero_of_parts [] h = tt
zero_of_parts (z ∷ x) h = (record { re = ratio_ring.next h.0 (ratio_ring.back (re-complex_whole (pos 0))); im = ratio_ring.next h.1.0 (ratio_ring.back (im-complex_whole (pos 0))) }, zero_of_parts x h.1.1)

zero_along : (y z : List Ratio) → AllZip ◌≈◌ y z → IsZeroList ratio_numbers z → IsZeroList ratio_numbers y
zero_along [] [] h k = tt
zero_along [] (c ∷ z) h k = absurd h
zero_along (b ∷ y) [] h k = absurd h
zero_along (b ∷ y) (c ∷ z) h k = (ratio_ring.next h.0 k.0, zero_along y z h.1 k.1)

annuls_along : (rows : List (List Ratio)) (y z : List Ratio) → AllZip ◌≈◌ y z → Annuls ratio_numbers rows y → Annuls ratio_numbers rows z
annuls_along [] y z h k = tt
annuls_along (r ∷ rows) y z h k = (ratio_ring.next (ratio_ring.back (C.dot_same ratio_numbers ratio_field r y z h)) k.0, annuls_along rows y z h k.1)

-- each list of 2n fractions has the parts of n complex ones
has_parts : (n : ℕ) (y : List Ratio) → length y ≡ n + n → HasParts n y
has_parts zero [] l = record { list = []; count = refl; parts = tt }
has_parts zero (b ∷ y) l = absurd (omega arith)
has_parts (suc n) [] l = absurd (omega arith)
has_parts (suc n) (b ∷ []) l = absurd (omega arith)
has_parts (suc n) (b ∷ c ∷ y) l =
    let p = has_parts n y (omega arith) in
    record {
      list = (b +j c) ∷ p.list;
      count = ap suc p.count;
      parts = (ratio_ring.back (re-plus_j b c), (ratio_ring.back (im-plus_j b c), p.parts));
    }

length-parts_of : (x : List Complex) → length (parts_of x) ≡ length x + length x
length-parts_of [] = refl
length-parts_of (z ∷ x) = omega (arith, length-parts_of x)

length-real_row : (r : List Complex) → length (real_row r) ≡ length r + length r
length-real_row [] = refl
length-real_row (z ∷ r) = omega (arith, length-real_row r)

length-imaginary_row : (r : List Complex) → length (imaginary_row r) ≡ length r + length r
length-imaginary_row [] = refl
length-imaginary_row (z ∷ r) = omega (arith, length-imaginary_row r)

length-real_rows : (rows : List (List Complex)) → length (real_rows rows) ≡ length rows + length rows
length-real_rows [] = refl
length-real_rows (r ∷ rows) = omega (arith, length-real_rows rows)

real_widths : (n : ℕ) (rows : List (List Complex)) → AllByRecursion (λ r. length r ≡ n) rows → AllByRecursion (λ r. length r ≡ n + n) (real_rows rows)
real_widths n [] h = tt
real_widths n (r ∷ rows) h = (omega (arith, length-real_row r, h.0), (omega (arith, length-imaginary_row r, h.0), real_widths n rows h.1))

pub complex_as_real : ComplexAsReal
complex_as_real n rows = record {
  square = λ s. record { count = omega (arith, length-real_rows rows, s.count); widths = real_widths n rows s.widths };
  solves = λ x right. (to_real rows x right, to_complex rows x right);
  every = has_parts n;
  injective = (
    λ i. record {
      only = λ y l a.
          let p = has_parts n y l in
          zero_along y (parts_of p.list) p.parts (zero_parts p.list (i.only p.list p.count (annuls_complex rows p.list (annuls_along (real_rows rows) y (parts_of p.list) p.parts a))));
    },
    λ i. record {
      only = λ x l a. zero_of_parts x (i.only (parts_of x) (omega (arith, length-parts_of x)) (annuls_real rows x a));
    },
  );
}
