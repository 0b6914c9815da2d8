-- The inverse part is sound.
use Rattle.std.proofs.Common.{◌≡◌, ap, ℕ, suc, ◌+◌, ◌-◌, ◌*◌, ◌^◌, ◌≤◌, ◌<◌, ℤ, pos, negsuc, ◌≤ℤ◌, ◌+ℤ◌, ◌*ℤ◌, unsigned_abs, nat_abs, Bool, true, false, Option, Some, refl, sym, subst, arith, [], ◌∷◌}
use Rattle.std.specs.Prelude.{nat_le}
use Rattle.std.proofs.lemmas.Bool.Decides.{nat_tests}
use Rattle.std.proofs.lemmas.Int.{ints}
use Rattle.std.proofs.lemmas.Nat.{mul-le, pow_pos}
use Rattle.exact_algebra.specs.Ratio.{Ratio, den, over, ◌≈◌, ◌≼◌, plus, times, opposite, difference, magnitude}
use Rattle.exact_algebra.specs.Complex.{Complex, complex_over, complex_difference, complex_size, real_part, imaginary_part, square_size}
use Rattle.exact_algebra.proofs.Complexes.{re-complex_difference, im-complex_difference}
use Rattle.exact_algebra.proofs.Reader.{reads, linear, weigh, join, none_left}
use Rattle.exact_algebra.proofs.Ratios.{ratio_ring, ratio_parts}
use Rattle.exact_algebra.proofs.Order.{NotNegative, ratio_order, at_most_is}
use Rattle.exact_algebra.proofs.Squares.{square_size-parts}
use Rattle.exact_fraction.specs.Root.{root_ceil_of}
use Rattle.exact_fraction.proofs.Roots.{root_ceil_is}
use Rattle.certified_inverse.specs.declared.outcome.InverseOutcome.{InverseOutcome}
use Rattle.certified_inverse.specs.declared.outcome.InverseOutcome.TheVariants.{Enclosed, NoInverse, NotContracting, OutOfRange}
use Rattle.certified_inverse.proofs.Raw.{raw, num-raw, den-raw, raw-plus, raw-not_negative, size_raw}
use Rattle.network_theory.specs.Order.{Order}
use Rattle.network_theory.specs.Network.{Network}
use Rattle.network_theory.specs.Scanned.{micro}
use Rattle.band_subdivision.specs.InverseTest.{most_within, least_above, point_square, root_floor_of, is_within_by, ohms_over_by, inverse_test}
use Rattle.band_subdivision.specs.Levels.{Levels}
use Rattle.band_subdivision.specs.Truth.{scanned_by, IsTruePeak, IsImpedanceNear, InverseTestIsSound}
use Rattle.band_subdivision.proofs.BySize.{IsAtMost, at_most_parts, IsBeyond, beyond_parts, cleared_by, peak_by}
use Rattle.band_subdivision.proofs.Comparisons.{one}
use Rattle.band_subdivision.proofs.Lifts.{clear_with, peak_with}
use Rattle.band_subdivision.proofs.Near.{reach_up, reach_down}
use Rattle.band_subdivision.proofs.Sound.{micro_is_order, micro_inside}
use Rattle.band_subdivision.proofs.TestSteps.{root_floor_square}

-- ---- what a passed test says
le_true : (m n : ℕ) → nat_le m n ≡ true → m ≤ n
le_true m n h = grind (arith, nat_tests)

le_false : (m n : ℕ) → nat_le m n ≡ false → n < m
le_false m n h = grind (arith, nat_tests)

pub record IsEnclosedAs (outcome : InverseOutcome) : Type 0 where
  pub re : ℤ
  pub im : ℤ
  pub error : ℕ
  pub is_enclosed : outcome ≡ Enclosed re im error

-- the size of the point rounded up, with the error
abbrev most_of : {outcome : InverseOutcome} → IsEnclosedAs outcome → ℕ
most_of e = root_ceil_of (point_square e.re e.im) + e.error

record IsWithinBy (bound : Option ℤ) (outcome : InverseOutcome) : Type 0 where
  pub point : IsEnclosedAs outcome
  pub within : IsAtMost (most_of point) bound

within_parts : (bound : Option ℤ) (outcome : InverseOutcome) → is_within_by bound outcome ≡ true → IsWithinBy bound outcome
within_parts bound (Enclosed re im error) h = record { point = record { re = re; im = im; error = error; is_enclosed = refl }; within = at_most_parts _ bound h }
within_parts bound (NoInverse n) h = absurd cc
within_parts bound (NotContracting n) h = absurd cc
within_parts bound OutOfRange h = absurd cc

pub record IsOverBy (scale : ℕ) (levels : Levels) (bound : Option ℤ) (outcome : InverseOutcome) (ohms : ℤ) : Type 0 where
  pub point : IsEnclosedAs outcome
  pub beyond : IsBeyond scale levels bound (root_floor_of (point_square point.re point.im)) point.error ohms

pub over_parts : (scale : ℕ) (levels : Levels) (bound : Option ℤ) (outcome : InverseOutcome) (ohms : ℤ) → ohms_over_by scale levels bound outcome ≡ Some ohms → IsOverBy scale levels bound outcome ohms
over_parts scale levels bound (Enclosed re im error) ohms h = record { point = record { re = re; im = im; error = error; is_enclosed = refl }; beyond = beyond_parts scale levels bound _ error ohms h }
over_parts scale levels bound (NoInverse n) ohms h = absurd cc
over_parts scale levels bound (NotContracting n) ohms h = absurd cc
over_parts scale levels bound OutOfRange ohms h = absurd cc

-- ---- the point's parts
abbrev part : ℕ → ℤ → Ratio
part s z = over z (2 ^ s)

den-part : (s : ℕ) (z : ℤ) → den (part s z) ≡ pos (2 ^ s)
unfolding den
den-part s z = let some = pow_pos s in ap pos (let e : suc (2 ^ s - 1) ≡ 2 ^ s = omega (arith, some) in e)

re-point : (s : ℕ) (re im : ℤ) → real_part (complex_over re im (2 ^ s)) ≡ part s re
unfolding real_part
re-point s re im = refl

im-point : (s : ℕ) (re im : ℤ) → imaginary_part (complex_over re im (2 ^ s)) ≡ part s im
unfolding imaginary_part
im-point s re im = refl

magnitude-part : (s : ℕ) (z : ℤ) → magnitude (part s z) ≡ part s (pos (nat_abs z))
unfolding magnitude
magnitude-part s z = refl

-- a number of at least so many units is at least the part in size
over_part : (s n : ℕ) (z : ℤ) → unsigned_abs z ≤ n → NotNegative (plus (raw s n) (opposite (magnitude (part s z))))
over_part s n z h =
    let up : part s (pos (nat_abs z)) ≼ raw s n = record { cross = simp (num-raw, den-raw, den-part) (units_up (nat_abs z) n (2 ^ s) h) } in
    rw (magnitude-part s z) ((at_most_is _ _).0 up)
  where
    units_up : (a n p : ℕ) → a ≤ n → (pos a *ℤ pos p) ≤ℤ (pos n *ℤ pos p)
    units_up a n p h = let k : a * p ≤ n * p = mul-le _ _ _ _ h (omega arith) in omega (arith, ints, k)

root_over : (a b r : ℕ) → a * a + b * b ≤ r * r → a ≤ r
root_over a b r h = by (nat_le a r) refl
  where
    by : (t : Bool) → nat_le a r ≡ t → a ≤ r
    by true is = le_true _ _ is
    by false is = let above : suc r ≤ a = le_false _ _ is in let great : suc r * suc r ≤ a * a = mul-le _ _ _ _ above above in absurd (omega (arith, great, h))

square_z : (z : ℤ) → z *ℤ z ≡ pos (unsigned_abs z * unsigned_abs z)
square_z (pos n) = refl
square_z (negsuc n) = refl

module _ (s : ℕ) (re im : ℤ) where
  abbrev a : Ratio
  a = part s re

  abbrev b : Ratio
  b = part s im

  squares_below : (r : ℕ) → point_square re im ≤ r * r → NotNegative (plus (times (raw s r) (raw s r)) (opposite (plus (times a a) (times b b))))
  squares_below r h = (at_most_is _ _).0 (record { cross = simp (ratio_parts, num-raw, den-raw, den-part, square_z) (scaled (unsigned_abs re * unsigned_abs re) (unsigned_abs im * unsigned_abs im) (r * r) (2 ^ s) h) })
    where
      scaled : (x y m p : ℕ) → x + y ≤ m → ((pos x *ℤ (pos p *ℤ pos p) +ℤ pos y *ℤ (pos p *ℤ pos p)) *ℤ (pos p *ℤ pos p)) ≤ℤ (pos m *ℤ (pos p *ℤ pos p *ℤ (pos p *ℤ pos p)))
      scaled x y m p h = let k : (x + y) * (p * p * (p * p)) ≤ m * (p * p * (p * p)) = mul-le _ _ _ _ h (omega arith) in omega (arith, ints, k)

  squares_above : (r : ℕ) → r * r ≤ point_square re im → NotNegative (plus (plus (times a a) (times b b)) (opposite (times (raw s r) (raw s r))))
  squares_above r h = (at_most_is _ _).0 (record { cross = simp (ratio_parts, num-raw, den-raw, den-part, square_z) (scaled (unsigned_abs re * unsigned_abs re) (unsigned_abs im * unsigned_abs im) (r * r) (2 ^ s) h) })
    where
      scaled : (x y m p : ℕ) → m ≤ x + y → (pos m *ℤ (pos p *ℤ pos p *ℤ (pos p *ℤ pos p))) ≤ℤ ((pos x *ℤ (pos p *ℤ pos p) +ℤ pos y *ℤ (pos p *ℤ pos p)) *ℤ (pos p *ℤ pos p))
      scaled x y m p h = let k : m * (p * p * (p * p)) ≤ (x + y) * (p * p * (p * p)) = mul-le _ _ _ _ h (omega arith) in omega (arith, ints, k)

-- ---- an impedance near the point
module _ (scale : ℕ) (network : Network) (h : Order) (node : ℕ) (re im : ℤ) (error : ℕ) (has : IsImpedanceNear scale network h node re im error) where
  abbrev Z : Complex
  Z = has.Z

  abbrev away : Complex
  away = complex_difference Z (complex_over re im (2 ^ scale))

  abbrev E : Ratio
  E = raw scale error

  apart_re : real_part away ≈ difference (real_part Z) (part scale re)
  apart_re = rw (← re-point scale re im) (re-complex_difference Z (complex_over re im (2 ^ scale)))

  apart_im : imaginary_part away ≈ difference (imaginary_part Z) (part scale im)
  apart_im = rw (← im-point scale re im) (im-complex_difference Z (complex_over re im (2 ^ scale)))

  small : NotNegative (plus E (opposite (plus (magnitude (real_part away)) (magnitude (imaginary_part away)))))
  unfolding complex_size
  small = size_raw scale error away has.near

  size_up : (n : ℕ) → point_square re im ≤ n * n → NotNegative (plus (times (raw scale (n + error)) (raw scale (n + error))) (opposite (square_size Z)))
  size_up n square =
      let x = real_part Z in
      let y = imaginary_part Z in
      let R = raw scale n in
      let up = reach_up E x y (part scale re) (part scale im) (real_part away) (imaginary_part away) apart_re apart_im small R
      (over_part scale n re (root_over (unsigned_abs re) (unsigned_abs im) n square)) (over_part scale n im (root_over (unsigned_abs im) (unsigned_abs re) n (omega (arith, square)))) (raw-not_negative scale n)
      (squares_below scale re im n square) in
      ratio_order.along
      (linear ratio_ring (R ∷ E ∷ x ∷ y ∷ raw scale (n + error) ∷ square_size Z ∷ [])
      (join ratio_ring (weigh ratio_ring (opposite (plus (raw scale (n + error)) (plus R E))) (raw-plus scale n error)) (weigh ratio_ring one (square_size-parts Z)))
      (search reads depth 60 fits 20000) none_left)
      up

  size_down : (m n : ℕ) → n * n ≤ point_square re im → m + error ≡ n → NotNegative (plus (square_size Z) (opposite (times (raw scale m) (raw scale m))))
  size_down m n square is =
      let x = real_part Z in
      let y = imaginary_part Z in
      let a = part scale re in
      let b = part scale im in
      let M = raw scale m in
      let N = raw scale n in
      let sum : N ≈ plus M E = subst (λ i. raw scale i ≈ plus M E) is (raw-plus scale m error) in
      let least = ratio_order.along (linear ratio_ring (a ∷ b ∷ M ∷ E ∷ N ∷ []) (weigh ratio_ring (opposite (plus N (plus M E))) sum) (search reads depth 60 fits 20000) none_left) (squares_above scale re im n square) in
      let down = reach_down E x y a b (real_part away) (imaginary_part away) apart_re apart_im small M (raw-not_negative scale m) least in
      ratio_order.along
      (linear ratio_ring (M ∷ x ∷ y ∷ square_size Z ∷ []) (weigh ratio_ring (opposite one) (square_size-parts Z)) (search reads depth 60 fits 20000) none_left)
      down

pub inverse_is_sound : InverseTestIsSound
unfolding inverse_test
inverse_is_sound scale from threshold kv mva levels enclosed network node of encloses = record {
  clear = λ lo hi testable passed h is_order inside.
      let parts = within_parts (most_within scale (levels lo hi)) (enclosed lo hi) passed in
      let p = parts.point in
      let has = encloses.at_each lo hi p.re p.im p.error h testable p.is_enclosed is_order inside in
      clear_with from threshold kv mva levels of network node lo hi h testable is_order inside
      (cleared_by scale (most_of p) network h node (levels lo hi) has.Z (of.in_range lo hi testable) has.exists parts.within
      (size_up scale network h node p.re p.im p.error has (root_ceil_of (point_square p.re p.im)) (root_ceil_is (point_square p.re p.im)).square));
  above = λ at ohms testable passed.
      let parts = over_parts scale (levels at at) (least_above scale (levels at at)) (enclosed at at) ohms passed in
      let p = parts.point in
      let b = parts.beyond in
      let top = root_floor_of (point_square p.re p.im) in
      let has = encloses.at_each at at p.re p.im p.error (micro at) testable p.is_enclosed (micro_is_order from at testable) (micro_inside at) in
      let over = b.least in
      let least = size_down scale network (micro at) node p.re p.im p.error has (top - p.error) top (root_floor_square (point_square p.re p.im)) (omega (arith, over)) in
      subst (λ o. IsTruePeak (scanned_by threshold kv mva network node) at at at o) (sym b.is_ohms)
      (peak_with from threshold kv mva levels of network node at _ testable
      (peak_by scale (top - p.error) network node at (levels at at) has.Z (of.in_range at at testable) least from b.number testable has.exists b.is_bound (omega (arith, over))));
}
