-- The squares of sizes: of products, along equality, and of reciprocals.
use Rattle.std.proofs.Common.{◌≡◌, suc, ◌*◌, ◌+◌, ◌-◌, ℤ, pos, negsuc, ◌+ℤ◌, ◌*ℤ◌, ◌-ℤ◌, nat_abs, refl, ap, ap₂, ◌∙◌, arith, [], ◌∷◌}
use Rattle.exact_algebra.specs.Ratio.{den, ◌≈◌, plus, times, whole}
use Rattle.exact_algebra.specs.Complex.{Complex, ◌≅◌, real_part, imaginary_part, complex_numbers, complex_times, complex_whole, square_size}
use Rattle.exact_algebra.proofs.Reader.{reads, ring, linear, weigh, join, none_left}
use Rattle.exact_algebra.proofs.Integers.{int_ring}
use Rattle.exact_algebra.proofs.Ratios.{ratio_ring, ratio_parts}
use Rattle.exact_algebra.proofs.Complexes.{num-square_size}
use Rattle.exact_algebra.proofs.Order.{NotNegative}

pub den-square : (z : Complex) → den (square_size z) ≡ den (real_part z) *ℤ den (real_part z)
unfolding square_size den real_part
den-square z = let k : suc (suc z.den_less_one * suc z.den_less_one - 1) ≡ suc z.den_less_one * suc z.den_less_one = omega arith in ap pos k

re-product : (z w : Complex) → (complex_times z w).re ≡ z.re *ℤ w.re -ℤ z.im *ℤ w.im
unfolding complex_times
re-product z w = refl

im-product : (z w : Complex) → (complex_times z w).im ≡ z.re *ℤ w.im +ℤ z.im *ℤ w.re
unfolding complex_times
im-product z w = refl

den-product : (z w : Complex) → den (real_part (complex_times z w)) ≡ den (real_part z) *ℤ den (real_part w)
unfolding complex_times den real_part
den-product z w = let k : suc (suc z.den_less_one * suc w.den_less_one - 1) ≡ suc z.den_less_one * suc w.den_less_one = omega arith in ap pos k

num-real_part : (z : Complex) → (real_part z).num ≡ z.re
unfolding real_part
num-real_part z = refl

num-imaginary_part : (z : Complex) → (imaginary_part z).num ≡ z.im
unfolding imaginary_part
num-imaginary_part z = refl

den-imaginary : (z : Complex) → den (imaginary_part z) ≡ den (real_part z)
unfolding den real_part imaginary_part
den-imaginary z = refl

ruleset squares = (ratio_parts, num-square_size, den-square, re-product, im-product, den-product)

pub square_size-product : (z w : Complex) → square_size (complex_times z w) ≈ times (square_size z) (square_size w)
square_size-product z w = record { cross = simp squares (ring int_ring (z.re ∷ z.im ∷ w.re ∷ w.im ∷ den (real_part z) ∷ den (real_part w) ∷ []) (search reads depth 60 fits 20000) none_left) }

cross-re : (z w : Complex) → z ≅ w → z.re *ℤ den (real_part w) ≡ w.re *ℤ den (real_part z)
unfolding real_part
cross-re z w p = p.re.cross

cross-im : (z w : Complex) → z ≅ w → z.im *ℤ den (real_part w) ≡ w.im *ℤ den (real_part z)
unfolding real_part imaginary_part den
cross-im z w p = p.im.cross

pub square_size-along : (z w : Complex) → z ≅ w → square_size z ≈ square_size w
square_size-along z w e =
    let d = den (real_part z) in
    let f = den (real_part w) in
    record {
      cross = simp squares
          (linear int_ring (z.re ∷ z.im ∷ w.re ∷ w.im ∷ d ∷ f ∷ [])
          (join int_ring (weigh int_ring (z.re *ℤ f +ℤ w.re *ℤ d) (cross-re z w e)) (weigh int_ring (z.im *ℤ f +ℤ w.im *ℤ d) (cross-im z w e)))
          (search reads depth 40 fits 8000) none_left);
    }

-- the square of the size is the sum of the squares of both parts
pub square_size-parts : (z : Complex) → square_size z ≈ plus (times (real_part z) (real_part z)) (times (imaginary_part z) (imaginary_part z))
square_size-parts z = record { cross = simp (squares, den-imaginary, num-real_part, num-imaginary_part) (ring int_ring (z.re ∷ z.im ∷ den (real_part z) ∷ []) (search reads depth 40 fits 4000) none_left) }

re-whole : (n : ℤ) → (complex_whole n).re ≡ n
unfolding complex_whole
re-whole n = refl

im-whole : (n : ℤ) → (complex_whole n).im ≡ pos 0
unfolding complex_whole
im-whole n = refl

den-complex_whole : (n : ℤ) → den (real_part (complex_whole n)) ≡ pos 1
unfolding complex_whole den real_part
den-complex_whole n = refl

pub square_size-unit : square_size (complex_whole (pos 1)) ≈ whole (pos 1)
square_size-unit = record { cross = simp (squares, re-whole, im-whole, den-complex_whole) }

pub square_size-nought : square_size (complex_whole (pos 0)) ≈ whole (pos 0)
square_size-nought = record { cross = simp (squares, re-whole, im-whole, den-complex_whole) }

a_square : (a : ℤ) → a *ℤ a ≡ pos (nat_abs a * nat_abs a)
a_square (pos n) = refl
a_square (negsuc n) = refl

pub square_size-not_negative : (z : Complex) → NotNegative (square_size z)
square_size-not_negative z = record { value = nat_abs z.re * nat_abs z.re + nat_abs z.im * nat_abs z.im; is = num-square_size z ∙ ap₂ ◌+ℤ◌ (a_square z.re) (a_square z.im) }

open complex_numbers use {◌⊗◌, nought, unit}

-- |Z|²|y|² = 1, where Z·y = 1
pub sizes_of_inverse : (Z y : Complex) → (Z ⊗ y) ≅ unit → times (square_size Z) (square_size y) ≈ whole (pos 1)
sizes_of_inverse Z y e = ratio_ring.next (ratio_ring.back (square_size-product Z y)) (ratio_ring.next (square_size-along _ _ e) square_size-unit)
