-- Products that aren't 0.
use Rattle.std.proofs.Common.{◌≡◌, zero, suc, ℤ, pos, negsuc, ◌*ℤ◌, ◌≤ℤ◌, refl, arith}
use Rattle.std.proofs.lemmas.Int.{ints}
use Rattle.study_model.specs.Rules.{AreNotBothZero}

-- a product that is 0, of a number and one above 0
factor_zero : (z s : ℤ) → pos 1 ≤ℤ s → z *ℤ s ≡ pos 0 → z ≡ pos 0
factor_zero (pos zero) (pos (suc n)) h e = refl
factor_zero (pos (suc k)) (pos (suc n)) h e = absurd (omega (arith, ints))
factor_zero (negsuc k) (pos (suc n)) h e = absurd (omega (arith, ints))
factor_zero z (pos zero) h e = absurd (omega (arith, ints))
factor_zero z (negsuc n) h e = absurd (omega (arith, ints))

-- of two values that aren't both 0, the multiples aren't both 0
pub multiples : (s r x : ℤ) → pos 1 ≤ℤ s → AreNotBothZero r x → ¬ ((r *ℤ s ≡ pos 0) × (x *ℤ s ≡ pos 0))
multiples s r x h n e = n (factor_zero r s h e.0, factor_zero x s h e.1)

pub not_nought : (s : ℤ) → pos 1 ≤ℤ s → ¬ (s ≡ pos 0)
not_nought s h e = omega (arith, ints)

-- the product of two numbers above 0
pub product_not_nought : (a b : ℤ) → pos 1 ≤ℤ a → pos 1 ≤ℤ b → ¬ (a *ℤ b ≡ pos 0)
product_not_nought a b h k e = not_nought a h (factor_zero a b k e)
