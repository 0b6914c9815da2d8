-- Products of whole numbers of at least 1.
use Rattle.std.proofs.Common.{◌≡◌, ◌*◌, ◌≤◌, refl, arith, ℤ, pos, negsuc, ◌*ℤ◌, ◌≤ℤ◌}
use Rattle.std.specs.Prelude.{unsigned_abs}
use Rattle.std.proofs.Math.Nat.{mul-le-mul_left}
use Rattle.std.proofs.lemmas.Int.{ints}

pub product_above : (a b : ℤ) → pos 1 ≤ℤ a → pos 1 ≤ℤ b → pos 1 ≤ℤ (a *ℤ b)
product_above (pos m) (pos n) h k =
    let some : 1 ≤ m = omega (arith, ints) in
    let many : 1 ≤ n = omega (arith, ints) in
    let more : m * 1 ≤ m * n = mul-le-mul_left m many in
    omega (arith, ints)
product_above (pos m) (negsuc n) h k = absurd (omega (arith, ints))
product_above (negsuc m) b h k = absurd (omega (arith, ints))

-- the size of a product
pub product_size : (a b : ℤ) → pos 1 ≤ℤ a → pos 1 ≤ℤ b → unsigned_abs (a *ℤ b) ≡ unsigned_abs a * unsigned_abs b
product_size (pos m) (pos n) h k = refl
product_size (pos m) (negsuc n) h k = absurd (omega (arith, ints))
product_size (negsuc m) b h k = absurd (omega (arith, ints))
