-- Values in thousandths of themselves.
use Rattle.std.proofs.Common.{◌≡◌, ◌∙◌, ◌≤◌, ◌<◌, ◌*◌, ◌-◌, ◌^◌, ℕ, suc, ℤ, pos, negsuc, ◌*ℤ◌, ◌≤ℤ◌, unsigned_abs, mul-le-mul, mul_assoc, mul_comm, refl, ap, ap₂, arith}
use Rattle.std.proofs.Math.Nat.{mul-le-mul_left}
use Rattle.std.proofs.lemmas.Int.{ints, unsigned_abs-mul}
use Rattle.exact_algebra.specs.Ratio.{Ratio, over, den, ◌≼◌}
use Rattle.exact_fraction.specs.Fraction.{ratio_of}
use Rattle.exact_fraction.specs.declared.fraction.Fraction.{Fraction}
use Rattle.element_parts.specs.Small.{IsSmall}
use Rattle.tolerance_scan.specs.Natural.{IsNatural}
use Rattle.tolerance_scan.specs.Widened.{multiplied}

-- the size of a numerator and of a denominator
pub num_size : (n : ℤ) (factor : ℕ) → unsigned_abs n < 2 ^ 105 → factor ≤ 1500 → unsigned_abs (n *ℤ pos factor) < 2 ^ 120
num_size n factor h k =
    let most : unsigned_abs n ≤ 2 ^ 105 = omega arith in
    omega (arith, unsigned_abs-mul n (pos factor), mul-le-mul most k)

-- a denominator of at least 1, as the one that is stored less one
den_is : (d : ℤ) → pos 1 ≤ℤ d → unsigned_abs (d *ℤ pos 1000) ≡ suc (unsigned_abs d - 1) * 1000
den_is (pos n) h = omega (arith, ints)
den_is (negsuc n) h = absurd (omega (arith, ints))

pub multiplied_is : (x y : Fraction) (factor : ℕ) → y.num ≡ x.num *ℤ pos factor → y.den ≡ x.den *ℤ pos 1000 → ratio_of y ≡ multiplied factor (ratio_of x)
unfolding multiplied
multiplied_is x y factor e f = ap₂ (λ (z : ℤ) (d : ℕ). over z d) e (ap unsigned_abs f ∙ den_is x.den x.den_positive)

pub den_above : (d k : ℤ) → pos 1 ≤ℤ d → k ≡ d *ℤ pos 1000 → pos 1 ≤ℤ k
den_above (pos n) k h e = omega (arith, ints)
den_above (negsuc n) k h e = absurd (omega (arith, ints))

-- ---- values of at least 0
pub natural_multiplied : (factor : ℕ) (x : Ratio) → IsNatural x → IsNatural (multiplied factor x)
unfolding multiplied
natural_multiplied factor x h = record { num = go x.num h.num }
  where
    go : (n : ℤ) → pos 0 ≤ℤ n → pos 0 ≤ℤ (n *ℤ pos factor)
    go (pos n) h = omega (arith, ints)
    go (negsuc n) h = absurd (omega (arith, ints))

-- less of them is at most the value, and more of them at least
below : (n d e factor : ℕ) → e ≡ d * 1000 → factor ≤ 1000 → n * factor * d ≤ n * e
below n d e factor h k = omega (arith, ap (λ (z : ℕ). n * z) h, mul-le-mul_left (n * d) k, mul_assoc n factor d, mul_assoc n d factor, ap (λ (z : ℕ). n * z) (mul_comm factor d), mul_assoc n d 1000)

above : (n d e factor : ℕ) → e ≡ d * 1000 → 1000 ≤ factor → n * e ≤ n * factor * d
above n d e factor h k = omega (arith, ap (λ (z : ℕ). n * z) h, mul-le-mul_left (n * d) k, mul_assoc n factor d, mul_assoc n d factor, ap (λ (z : ℕ). n * z) (mul_comm factor d), mul_assoc n d 1000)

below_signed : (n : ℤ) (d e factor : ℕ) → pos 0 ≤ℤ n → e ≡ d * 1000 → factor ≤ 1000 → ((n *ℤ pos factor) *ℤ pos d) ≤ℤ (n *ℤ pos e)
below_signed (pos n) d e factor h f k = omega (arith, ints, below n d e factor f k)
below_signed (negsuc n) d e factor h f k = absurd (omega (arith, ints))

above_signed : (n : ℤ) (d e factor : ℕ) → pos 0 ≤ℤ n → e ≡ d * 1000 → 1000 ≤ factor → (n *ℤ pos e) ≤ℤ ((n *ℤ pos factor) *ℤ pos d)
above_signed (pos n) d e factor h f k = omega (arith, ints, above n d e factor f k)
above_signed (negsuc n) d e factor h f k = absurd (omega (arith, ints))

pub multiplied_down : (factor : ℕ) (x : Ratio) → IsNatural x → factor ≤ 1000 → multiplied factor x ≼ x
unfolding multiplied den
multiplied_down factor x h k = record { cross = below_signed x.num (suc x.den_less_one) (suc (suc x.den_less_one * 1000 - 1)) factor h.num (omega arith) k }

pub multiplied_up : (factor : ℕ) (x : Ratio) → IsNatural x → 1000 ≤ factor → x ≼ multiplied factor x
unfolding multiplied den
multiplied_up factor x h k = record { cross = above_signed x.num (suc x.den_less_one) (suc (suc x.den_less_one * 1000 - 1)) factor h.num (omega arith) k }
