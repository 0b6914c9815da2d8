-- Sizes of a filter's values.
use Rattle.std.proofs.Common.{◌≤◌, ◌^◌, ◌*◌, ℤ, pos, negsuc, unsigned_abs, ◌*ℤ◌, ◌≤ℤ◌, ◌<ℤ◌, arith}
use Rattle.std.proofs.lemmas.Int.{ints}
use Rattle.std.proofs.Math.Nat.{mul-le-mul_left}
use Rattle.study_model.specs.Range.{IsIn}
use Rattle.study_model.specs.declared.range.TheConstants.Range.{TUNED_ORDER, QUALITY}

-- an order squared is above 1 and at most 10000
pub order_square : (n : ℤ) → IsIn TUNED_ORDER n → (unsigned_abs (n *ℤ n) ≤ 10 ^ 16) × (pos (10 ^ 12) <ℤ (n *ℤ n))
order_square (pos n) h =
    let least : 1000001 ≤ n = omega (arith, ints, h.0) in
    let most : n ≤ 100000000 = omega (arith, ints, h.1) in
    let high : n * n ≤ n * 100000000 = mul-le-mul_left n most in
    let low : n * 1000001 ≤ n * n = mul-le-mul_left n least in
    (omega (arith, ints), omega (arith, ints))
order_square (negsuc n) h = absurd (omega (arith, ints, h.0))

-- an order times a quality is above 0 and at most 100000
pub order_quality : (n w : ℤ) → IsIn TUNED_ORDER n → IsIn QUALITY w → (unsigned_abs (n *ℤ w) ≤ 10 ^ 17) × (pos 1 ≤ℤ (n *ℤ w))
order_quality (pos n) (pos w) h k =
    let some : 1 ≤ n = omega (arith, ints, h.0) in
    let most : n ≤ 100000000 = omega (arith, ints, h.1) in
    let few : w ≤ 1000000000 = omega (arith, ints, k.1) in
    let least : 1 ≤ w = omega (arith, ints, k.0) in
    let high : n * w ≤ n * 1000000000 = mul-le-mul_left n few in
    let low : n * 1 ≤ n * w = mul-le-mul_left n least in
    (omega (arith, ints), omega (arith, ints))
order_quality (pos n) (negsuc w) h k = absurd (omega (arith, ints, k.0))
order_quality (negsuc n) w h k = absurd (omega (arith, ints, h.0))
