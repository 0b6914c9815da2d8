-- The values of the elements of a lawful study are small.
use Rattle.std.proofs.Common.{ℕ, ◌*◌, ◌^◌, ◌≤◌, ℤ, pos, ◌*ℤ◌, unsigned_abs, mul-le-mul, arith}
use Rattle.std.proofs.lemmas.Int.{unsigned_abs-mul}
use Rattle.exact_algebra.specs.Ratio.{over, whole}
use Rattle.study_model.specs.Range.{IsIn}
use Rattle.study_model.specs.declared.range.TheConstants.Range.{BUS_KV, BASE_MVA}
use Rattle.element_parts.specs.PerUnit.{as_written, impedance_per_unit, impedance_share, susceptance_share, impedance_of_rating, susceptance_of_rating, percent_per_unit}
use Rattle.element_parts.specs.Small.{IsSmall}
use Rattle.element_parts.proofs.Values.{square_of_kv, base_above}

-- a fraction of a numerator and a denominator of at most 10^31
pub small_over : (n : ℤ) (d : ℕ) → unsigned_abs n ≤ 10 ^ 31 → d ≤ 10 ^ 31 → IsSmall (over n d)
small_over n d h k = record { num = omega (arith, h); den = omega (arith, k) }

-- the size of a product
pub size : (a b : ℤ) (m n : ℕ) → unsigned_abs a ≤ m → unsigned_abs b ≤ n → unsigned_abs (a *ℤ b) ≤ m * n
size a b m n p q = omega (arith, unsigned_abs-mul a b, mul-le-mul p q)

pub small_zero : IsSmall (whole (pos 0))
unfolding whole
small_zero = record { num = omega arith; den = omega arith }

pub small_one : IsSmall (whole (pos 1))
unfolding whole
small_one = record { num = omega arith; den = omega arith }

pub small_written : (d : ℤ) → unsigned_abs d ≤ 10 ^ 12 → IsSmall (as_written d)
unfolding as_written
small_written d h = small_over d (10 ^ 6) (omega (arith, h)) (omega arith)

pub small_impedance : (z s v : ℤ) → unsigned_abs z ≤ 10 ^ 13 → IsIn BASE_MVA s → IsIn BUS_KV v → IsSmall (impedance_per_unit z s v)
unfolding impedance_per_unit
small_impedance z s v h k l =
    small_over (z *ℤ s) (unsigned_abs (v *ℤ v)) (omega (arith, size z s (10 ^ 13) (10 ^ 10) h (base_above s k).1)) (omega (arith, square_of_kv v l))

pub small_share : (z s v : ℤ) (n : ℕ) → unsigned_abs z ≤ 10 ^ 13 → IsIn BASE_MVA s → IsIn BUS_KV v → n ≤ 384 → IsSmall (impedance_share z s v n)
unfolding impedance_share
small_share z s v n h k l m =
    small_over (z *ℤ s) (unsigned_abs (v *ℤ v) * n) (omega (arith, size z s (10 ^ 13) (10 ^ 10) h (base_above s k).1)) (omega (arith, mul-le-mul (square_of_kv v l) m))

pub small_susceptance_share : (b s v : ℤ) (n : ℕ) → unsigned_abs b ≤ 10 ^ 12 → IsIn BASE_MVA s → IsIn BUS_KV v → n ≤ 384 → IsSmall (susceptance_share b s v n)
unfolding susceptance_share
small_susceptance_share b s v n h k l m =
    let base : unsigned_abs s * 10 ^ 18 ≤ 10 ^ 28 = omega (arith, (base_above s k).1) in
    small_over (b *ℤ (v *ℤ v)) (unsigned_abs s * 10 ^ 18 * n) (omega (arith, size b (v *ℤ v) (10 ^ 12) 4000000000000000000 h (square_of_kv v l))) (omega (arith, mul-le-mul base m))

pub small_rating : (q s : ℤ) → unsigned_abs q ≤ 10 ^ 13 → IsIn BASE_MVA s → IsSmall (impedance_of_rating q s)
unfolding impedance_of_rating
small_rating q s h k = small_over s (unsigned_abs q) (omega (arith, (base_above s k).1)) (omega (arith, h))

pub small_susceptance : (q s : ℤ) → unsigned_abs q ≤ 10 ^ 13 → IsIn BASE_MVA s → IsSmall (susceptance_of_rating q s)
unfolding susceptance_of_rating
small_susceptance q s h k = small_over q (unsigned_abs s) (omega (arith, h)) (omega (arith, (base_above s k).1))

pub small_percent : (z s t : ℤ) → unsigned_abs z ≤ 10 ^ 12 → IsIn BASE_MVA s → IsIn BASE_MVA t → IsSmall (percent_per_unit z s t)
unfolding percent_per_unit
small_percent z s t h k l =
    small_over (z *ℤ s) (unsigned_abs t * 10 ^ 8) (omega (arith, size z s (10 ^ 12) (10 ^ 10) h (base_above s k).1)) (omega (arith, (base_above t l).1))
