-- Whole parts that are out of range at the scale too.
use Rattle.std.proofs.Common.{◌≡◌, ℕ, zero, suc, ◌+◌, ◌*◌, ◌^◌, ◌<◌, ◌≤◌, arith}
use Rattle.std.specs.Prelude.{unsigned_abs, None}
use Rattle.std.proofs.Math.Nat.{mul-le-mul_left}
use Rattle.std.proofs.lemmas.Int.{ints}
use lib.IntN.{ℤ, pos, negsuc, ◌+ℤ◌, ◌*ℤ◌, neg_ℤ}
use lib.Signed.{◌<ℤ◌}
use Rattle.exact_fraction.specs.Scaled.{end_of}

not_an_end : (z : ℤ) → 2 ^ 62 < unsigned_abs z → None ≡ end_of z
not_an_end z h = grind arith

stays_above : (w : ℤ) (u n m : ℕ) → 0 < u → pos m <ℤ w → m < unsigned_abs (w *ℤ pos u +ℤ pos n)
stays_above (pos a) u n m p h = let some : 1 ≤ u = p in let more = mul-le-mul_left a some in omega (arith, ints)
stays_above (negsuc a) u n m p h = absurd (omega (arith, ints))

stays_below : (w : ℤ) (u n m : ℕ) → 0 < u → n ≤ 2 * u → w <ℤ neg_ℤ (pos (m + 2)) → m < unsigned_abs (w *ℤ pos u +ℤ pos n)
stays_below (pos a) u n m p b h = absurd (omega (arith, ints))
stays_below (negsuc zero) u n m p b h = absurd (omega (arith, ints))
stays_below (negsuc (suc a)) u n m p b h = let some : 1 ≤ u = p in let more = mul-le-mul_left a some in omega (arith, ints)

pub no_end_above : (w : ℤ) (u n : ℕ) → 0 < u → pos (2 ^ 62) <ℤ w → None ≡ end_of (w *ℤ pos u +ℤ pos n)
no_end_above w u n p h = not_an_end (w *ℤ pos u +ℤ pos n) (stays_above w u n (2 ^ 62) p h)

pub no_end_below : (w : ℤ) (u n : ℕ) → 0 < u → n ≤ 2 * u → w <ℤ neg_ℤ (pos (2 ^ 62 + 2)) → None ≡ end_of (w *ℤ pos u +ℤ pos n)
no_end_below w u n p b h = not_an_end (w *ℤ pos u +ℤ pos n) (stays_below w u n (2 ^ 62) p b h)
