-- Raw numbers at a scale as fractions: n/2^scale.
use Rattle.std.proofs.Common.{◌≡◌, inl, inr, ℕ, suc, ◌+◌, ◌-◌, ◌*◌, ◌^◌, ◌≤◌, ◌<◌, pos, ◌*ℤ◌, ◌≤ℤ◌, [], ◌∷◌, refl, ap, subst, arith}
use Rattle.std.proofs.lemmas.Int.{ints}
use Rattle.std.proofs.lemmas.Nat.{pow_pos}
use Rattle.std.proofs.Math.Nat.{mul-le-mul_right}
use Rattle.exact_algebra.specs.Ratio.{Ratio, den, over, whole, plus, times, opposite, reciprocal, ◌≈◌, ◌≼◌}
use Rattle.exact_algebra.specs.Complex.{Complex, complex_size}
use Rattle.exact_algebra.proofs.Reader.{reads, ring, linear, weigh, join, none_left}
use Rattle.exact_algebra.proofs.Ratios.{ratio_ring, ratio_field, num-plus, den-plus, num-times, den-times, num-whole, den-whole}
use Rattle.exact_algebra.proofs.Order.{NotNegative, ratio_order, at_most_is, not_negative_nought}
use Rattle.complex_interval.specs.Rectangles.{IsAtLeastSize}
use Rattle.certified_inverse.specs.Certificate.{ceil_over}

-- n/2^scale
unfoldable pub raw : ℕ → ℕ → Ratio
raw s n = over (pos n) (2 ^ s)

pub num-raw : (s n : ℕ) → (raw s n).num ≡ pos n
unfolding raw
num-raw s n = refl

pub den-raw : (s n : ℕ) → den (raw s n) ≡ pos (2 ^ s)
unfolding raw den
den-raw s n = let some = pow_pos s in ap pos (let e : suc (2 ^ s - 1) ≡ 2 ^ s = omega arith in e)

pub raw-plus : (s m n : ℕ) → raw s (m + n) ≈ plus (raw s m) (raw s n)
raw-plus s m n = record {
  cross = rw (den-plus (raw s m) (raw s n), num-plus (raw s m) (raw s n), den-raw s (m + n), den-raw s m, den-raw s n, num-raw s (m + n), num-raw s m, num-raw s n)
      (ap pos (let p = 2 ^ s in omega (arith)));
}

pub raw-zero : (s : ℕ) → raw s 0 ≈ whole (pos 0)
raw-zero s = record { cross = rw (den-raw s 0, den-whole (pos 0), num-raw s 0, num-whole (pos 0)) (ap pos (omega arith)) }

pub raw-one : (s : ℕ) → raw s (2 ^ s) ≈ whole (pos 1)
raw-one s = record { cross = rw (den-raw s (2 ^ s), den-whole (pos 1), num-raw s (2 ^ s), num-whole (pos 1)) (ap pos (omega arith)) }

pub raw-not_negative : (s n : ℕ) → NotNegative (raw s n)
raw-not_negative s n = record { value = n; is = num-raw s n }

-- the order
pub raw-more : (s m n : ℕ) → m ≤ n → NotNegative (plus (raw s n) (opposite (raw s m)))
raw-more s m n l =
    let k = n - m in
    let e : m + k ≡ n = omega arith in
    let h : raw s n ≈ plus (raw s m) (raw s k) = subst (λ i. raw s i ≈ plus (raw s m) (raw s k)) e (raw-plus s m k) in
    ratio_order.along (linear ratio_ring (raw s n ∷ raw s m ∷ raw s k ∷ []) (weigh ratio_ring (opposite (whole (pos 1))) h) (search reads depth 40 fits 4000) none_left) (raw-not_negative s k)

-- a size that is at most n raw units
pub size_raw : (s n : ℕ) (z : Complex) → IsAtLeastSize s n z → NotNegative (plus (raw s n) (opposite (complex_size z)))
size_raw s n z h = (at_most_is _ _).0 (record { cross = rw (den-raw s n, num-raw s n) h })

pub raw_size : (s n : ℕ) (z : Complex) → NotNegative (plus (raw s n) (opposite (complex_size z))) → IsAtLeastSize s n z
raw_size s n z h = let k : complex_size z ≼ raw s n = (at_most_is _ _).1 h in let c = k.cross in rw (den-raw s n, num-raw s n) at c

-- what is left of 1
pub raw-left : (s theta : ℕ) → theta ≤ 2 ^ s → plus (whole (pos 1)) (opposite (raw s theta)) ≈ raw s (2 ^ s - theta)
raw-left s theta l =
    let k = 2 ^ s - theta in
    let e : theta + k ≡ 2 ^ s = omega arith in
    let h : raw s (2 ^ s) ≈ plus (raw s theta) (raw s k) = subst (λ i. raw s i ≈ plus (raw s theta) (raw s k)) e (raw-plus s theta k) in
    linear ratio_ring (raw s (2 ^ s) ∷ raw s theta ∷ raw s k ∷ [])
    (join ratio_ring (weigh ratio_ring (opposite (whole (pos 1))) (raw-one s)) (weigh ratio_ring (whole (pos 1)) h)) (search reads depth 40 fits 4000) none_left

pub raw-apart : (s n : ℕ) → 0 < n → ¬ (raw s n ≈ whole (pos 0))
raw-apart s n l h = let c = h.cross in let e : pos n *ℤ pos 1 ≡ pos 0 *ℤ pos (2 ^ s) = rw (den-raw s n, den-whole (pos 0), num-raw s n, num-whole (pos 0)) at c in absurd (omega (arith, ints))

-- rounding up
pub ceil_over-enough : (a b : ℕ) → 0 < b → a ≤ ceil_over a b * b
unfolding ceil_over
ceil_over-enough a b l = let n = a + (b - 1) in omega arith

-- the error times what is left of 1 is at least sigma
pub error_enough : (s sigma left error : ℕ) → sigma * 2 ^ s ≤ error * left → NotNegative (plus (times (raw s error) (raw s left)) (opposite (raw s sigma)))
error_enough s sigma left error h =
    (at_most_is _ _).0 (record {
      cross = rw (den-times (raw s error) (raw s left), num-times (raw s error) (raw s left), den-raw s sigma, den-raw s error, den-raw s left, num-raw s sigma, num-raw s error, num-raw s left) (core sigma left error (2 ^ s) h);
    })
  where
    core : (sigma left error p : ℕ) → sigma * p ≤ error * left → (pos sigma *ℤ (pos p *ℤ pos p)) ≤ℤ ((pos error *ℤ pos left) *ℤ pos p)
    core sigma left error p h = let more : (sigma * p) * p ≤ (error * left) * p = mul-le-mul_right p h in omega (arith, ints)

-- a factor other than zero that isn't negative can be left out
pub unscaled : (u e : Ratio) → NotNegative u → ¬ (u ≈ whole (pos 0)) → NotNegative (times u e) → NotNegative e
unscaled u e hu a h = elim (ratio_order.either e) [
  | inl p ↦ p
  | inr p ↦
      let q : NotNegative (opposite (times u e)) = ratio_order.along (ring ratio_ring (u ∷ e ∷ []) (search reads depth 40 fits 4000) none_left) (ratio_order.product hu p) in
      let z : times u e ≈ whole (pos 0) = ratio_order.both h q in
      let i = reciprocal u in
      let m : times u i ≈ whole (pos 1) = ratio_field.mul_inverse u a in
      let n : whole (pos 0) ≈ e = linear ratio_ring (u ∷ e ∷ i ∷ []) (join ratio_ring (weigh ratio_ring (opposite i) z) (weigh ratio_ring e m)) (search reads depth 40 fits 4000) none_left in
      ratio_order.along n not_negative_nought
]
