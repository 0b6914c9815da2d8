-- Values of elements.
use Rattle.std.proofs.Common.{◌≡◌, ◌≤◌, ◌<◌, ℕ, zero, suc, List, [], ◌∷◌, length, ℤ, pos, negsuc, unsigned_abs, ◌*ℤ◌, ◌*◌, ◌≤ℤ◌, refl, arith}
use Rattle.std.proofs.lemmas.Int.{ints}
use Rattle.std.proofs.Math.Nat.{mul-le-mul_left}
use Rattle.std.specs.Prelude.{All}
use Rattle.study_model.specs.Range.{IsIn}
use Rattle.study_model.specs.Lawful.{IsLawfulBus}
use Rattle.study_model.specs.declared.records.Bus.{Bus}
use Rattle.study_model.specs.Voltages.{kv_of}
use Rattle.study_model.specs.declared.range.TheConstants.Range.{BUS_KV, BASE_MVA}

-- the square of a whole number of at least 1
pub square_above : (v : ℤ) → pos 1 ≤ℤ v → pos 1 ≤ℤ (v *ℤ v)
square_above (pos n) h =
    let some : 1 ≤ n = omega (arith, ints) in
    let more : n * 1 ≤ n * n = mul-le-mul_left n some in
    omega (arith, ints)
square_above (negsuc n) h = absurd (omega (arith, ints))

-- the square of a nominal voltage
pub square_of_kv : (v : ℤ) → IsIn BUS_KV v → unsigned_abs (v *ℤ v) ≤ 4000000000000000000
square_of_kv (pos n) h =
    let most : n ≤ 2000000000 = omega (arith, ints, h.1) in
    let first : n * n ≤ n * 2000000000 = mul-le-mul_left n most in
    omega (arith, ints)
square_of_kv (negsuc n) h = absurd (omega (arith, ints, h.0))

-- the product of two whole numbers of at least 1
pub product_above : (a b : ℤ) → pos 1 ≤ℤ a → pos 1 ≤ℤ b → pos 1 ≤ℤ (a *ℤ b)
product_above (pos m) (pos n) h k =
    let some : 1 ≤ m = omega (arith, ints) in
    let many : 1 ≤ n = omega (arith, ints) in
    let more : m * 1 ≤ m * n = mul-le-mul_left m many in
    omega (arith, ints)
product_above (pos m) (negsuc n) h k = absurd (omega (arith, ints))
product_above (negsuc m) b h k = absurd (omega (arith, ints))

-- the size of a product
pub product_size : (a b : ℤ) → pos 1 ≤ℤ a → pos 1 ≤ℤ b → unsigned_abs (a *ℤ b) ≡ unsigned_abs a * unsigned_abs b
product_size (pos m) (pos n) h k = refl
product_size (pos m) (negsuc n) h k = absurd (omega (arith, ints))
product_size (negsuc m) b h k = absurd (omega (arith, ints))

-- a number of at least 1, so many times
pub times_parts : (a : ℤ) (n : ℕ) → pos 1 ≤ℤ a → 1 ≤ n → n ≤ 384 → unsigned_abs (a *ℤ pos n) ≤ unsigned_abs a * 384
times_parts (pos m) n h k l = let most : m * n ≤ m * 384 = mul-le-mul_left m l in omega (arith, ints)
times_parts (negsuc m) n h k l = absurd (omega (arith, ints))

-- a base in MVA is at least 1 and at most 10^10 millionths
pub base_above : (s : ℤ) → IsIn BASE_MVA s → (pos 1 ≤ℤ s) × (unsigned_abs s ≤ 10000000000)
base_above s h = (omega (arith, ints, h.0), omega (arith, ints, h.0, h.1))

-- the voltage of a bus of a lawful study
pub kv_within : (buses : List Bus) (n : ℕ) → All IsLawfulBus buses → n < length buses → IsIn BUS_KV (kv_of buses n)
kv_within [] n all h = absurd (omega arith)
kv_within (b ∷ bs) zero all h = let first : IsLawfulBus b = all 0 b h in first.kv
kv_within (b ∷ bs) (suc n) all h = kv_within bs n (λ k d l. all (suc k) d (omega arith)) (omega arith)

pub kv_positive : (buses : List Bus) (n : ℕ) → All IsLawfulBus buses → n < length buses → pos 1 ≤ℤ kv_of buses n
kv_positive buses n all h = let k = kv_within buses n all h in omega (arith, ints, k.0)
