-- Two fractions in parts, and their sum rounded down.
use Rattle.std.proofs.Common.{◌≡◌, ℕ, suc, ◌+◌, ◌-◌, ◌*◌, ◌<◌, ◌≤◌, [], ◌∷◌, ap, ◌∙◌, arith}
use Rattle.std.specs.Prelude.{unsigned_abs}
use Rattle.std.proofs.Math.Nat.{mul-le-mul_left}
use Rattle.std.proofs.lemmas.Int.{ints}
use lib.IntN.{ℤ, pos, ◌+ℤ◌, ◌*ℤ◌, neg_ℤ}
use lib.Signed.{◌≤ℤ◌}
use Rattle.exact_algebra.specs.Floor.{floor_div}
use Rattle.exact_algebra.proofs.Differences.{products}
use Rattle.exact_algebra.proofs.Integers.{int_ring, int_reads}
use Rattle.exact_algebra.proofs.Reader.{linear, weigh, join, none_left}
use Rattle.exact_algebra.proofs.WholeOrder.{floor_div-is}

-- the parts at a scale, from those of a division with rest and of the rest's multiple
pub scaled_parts : (n w : ℤ) (d r u q l : ℕ) → w *ℤ pos d +ℤ pos r ≡ n → q * d + l ≡ r * u → n *ℤ pos u ≡ (w *ℤ pos u +ℤ pos q) *ℤ pos d +ℤ pos l
scaled_parts n w d r u q l e f =
    linear int_ring (n ∷ w ∷ pos d ∷ pos r ∷ pos u ∷ pos q ∷ pos l ∷ [])
    (join int_ring (weigh int_ring (neg_ℤ (pos u)) e) (weigh int_ring (neg_ℤ (pos 1)) (ap pos f))) (search int_reads depth 60 fits 20000) none_left

-- whether two rests make one whole together, by a comparison of what the second lacks with the first
module _ (m p n q : ℤ) (l1 d1 l2 d2 : ℕ) (e1 : m ≡ pos (d2 - l2)) (e2 : p ≡ pos d2) (e3 : n ≡ pos l1) (e4 : q ≡ pos d1) (b1 : l1 < d1) (b2 : l2 < d2) where
  lacks : d2 * d1 ≡ (d2 - l2) * d1 + l2 * d1
  lacks = let e : d2 ≡ (d2 - l2) + l2 = omega arith in let f = ap (λ x. x * d1) e in omega (arith, f)

  first_den : suc (unsigned_abs q - 1) ≡ d1
  first_den = rw e4 (omega (arith, ints))

  second_den : suc (unsigned_abs p - 1) ≡ d2
  second_den = rw e2 (omega (arith, ints))

  pub carry_out : (m *ℤ pos (suc (unsigned_abs q - 1))) ≤ℤ (n *ℤ pos (suc (unsigned_abs p - 1))) → d1 * d2 ≤ l1 * d2 + l2 * d1
  carry_out h = let k : (pos (d2 - l2) *ℤ pos d1) ≤ℤ (pos l1 *ℤ pos d2) = rw (first_den, second_den, e1, e3) at h in let l = lacks in omega (arith, ints)

  pub carry_in : d1 * d2 ≤ l1 * d2 + l2 * d1 → (m *ℤ pos (suc (unsigned_abs q - 1))) ≤ℤ (n *ℤ pos (suc (unsigned_abs p - 1)))
  carry_in h = rw (first_den, second_den, e1, e3) (let l = lacks in omega (arith, ints))

-- two rests make less than two wholes
pub rests_below : (l1 d1 l2 d2 : ℕ) → l1 < d1 → l2 < d2 → l1 * d2 + l2 * d1 < d1 * d2 + d1 * d2
rests_below l1 d1 l2 d2 p q = let a : l1 + 1 ≤ d1 = omega arith in let b : l2 + 1 ≤ d2 = omega arith in omega (arith, mul-le-mul_left d2 a, mul-le-mul_left d1 b)

-- the quotient of w * k + l, from the whole parts in l
floor_from : (w z : ℤ) (k l c : ℕ) → 0 < k → z ≡ w *ℤ pos k +ℤ pos l → c * k ≤ l → l < c * k + k → floor_div z k ≡ w +ℤ pos c
floor_from w z k l c p e low high = floor_div-is (w +ℤ pos c) z k p (omega (arith, products)) (omega (arith, products))

-- the sum of two numbers in parts, rounded down: c is what the rests carry
module _ (n1 n2 w1 w2 : ℤ) (d1 d2 u q1 q2 l1 l2 : ℕ) (e1 : n1 *ℤ pos u ≡ (w1 *ℤ pos u +ℤ pos q1) *ℤ pos d1 +ℤ pos l1) (e2 : n2 *ℤ pos u ≡ (w2 *ℤ pos u +ℤ pos q2) *ℤ pos d2 +ℤ pos l2)
    (b1 : l1 < d1) (b2 : l2 < d2) where
  sum_is : (n1 *ℤ pos d2 +ℤ n2 *ℤ pos d1) *ℤ pos u ≡ ((w1 +ℤ w2) *ℤ pos u +ℤ pos (q1 + q2)) *ℤ pos (d1 * d2) +ℤ pos (l1 * d2 + l2 * d1)
  sum_is =
      linear int_ring (n1 ∷ n2 ∷ w1 ∷ w2 ∷ pos d1 ∷ pos d2 ∷ pos u ∷ pos q1 ∷ pos q2 ∷ pos l1 ∷ pos l2 ∷ [])
      (join int_ring (weigh int_ring (pos d2) e1) (weigh int_ring (pos d1) e2)) (search int_reads depth 60 fits 20000) none_left

  some_den : 0 < d1 * d2
  some_den = let a : 1 ≤ d1 = omega arith in let b : 1 ≤ d2 = omega arith in omega (arith, mul-le-mul_left d1 b)

  pub floor_parts : (c : ℕ) → c * (d1 * d2) ≤ l1 * d2 + l2 * d1 → l1 * d2 + l2 * d1 < c * (d1 * d2) + d1 * d2 → floor_div ((n1 *ℤ pos d2 +ℤ n2 *ℤ pos d1) *ℤ pos u) (d1 * d2) ≡ (w1 +ℤ w2) *ℤ pos u +ℤ pos (q1 + q2 + c)
  floor_parts c low high = floor_from ((w1 +ℤ w2) *ℤ pos u +ℤ pos (q1 + q2)) _ (d1 * d2) (l1 * d2 + l2 * d1) c some_den sum_is low high ∙ omega (arith, ints)
