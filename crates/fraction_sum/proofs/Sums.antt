-- The sum of two fractions, each times a whole number: its numerator, its denominator and its ends.
use Rattle.std.proofs.Common.{◌≡◌, ℕ, suc, ◌*◌, ◌^◌, [], ◌∷◌, sym, ap₂, ◌∙◌, arith}
use Rattle.std.specs.Prelude.{unsigned_abs, Some, None}
use Rattle.std.proofs.lemmas.Int.{ints}
use lib.IntN.{ℤ, pos, ◌+ℤ◌, ◌*ℤ◌, neg_ℤ}
use lib.Signed.{◌≤ℤ◌}
use Rattle.exact_algebra.specs.Ratio.{Ratio, den, whole, plus, times}
use Rattle.exact_algebra.specs.Floor.{floor_div}
use Rattle.exact_algebra.proofs.Ratios.{ratio_parts}
use Rattle.exact_algebra.proofs.Integers.{int_ring}
use Rattle.exact_algebra.proofs.Reader.{reads, ring, none_left}
use Rattle.exact_fraction.specs.Scaled.{end_of, floor_scaled_of, ceil_scaled_of}
use Rattle.complex_interval.specs.Ends.{range_ends, ends_in_range, ends_of_pair}
use Rattle.complex_interval.proofs.Ranges.{end_is, range_ordered, same_value}

module _ (x y : Ratio) (j k : ℤ) where
  -- j * x + k * y
  abbrev pub sum : Ratio
  sum = plus (times (whole j) x) (times (whole k) y)

  num_sum : sum.num ≡ (j *ℤ x.num) *ℤ den y +ℤ (k *ℤ y.num) *ℤ den x
  num_sum = simp ratio_parts (ring int_ring (j ∷ k ∷ x.num ∷ y.num ∷ den x ∷ den y ∷ []) (search reads depth 40 fits 4000) none_left)

  den_sum : den sum ≡ den x *ℤ den y
  den_sum = simp ratio_parts (ring int_ring (den x ∷ den y ∷ []) (search reads depth 40 fits 4000) none_left)

same_number : (m n : ℕ) → pos m ≡ pos n → m ≡ n
same_number m n e = cc

-- its floor, from products and denominators as the code has them
pub floor_sum : (x y : Ratio) (j k m n : ℤ) (d e s : ℕ) → suc x.den_less_one ≡ d → suc y.den_less_one ≡ e → m ≡ j *ℤ x.num → n ≡ k *ℤ y.num
    → floor_div ((m *ℤ pos e +ℤ n *ℤ pos d) *ℤ pos (2 ^ s)) (d * e) ≡ floor_scaled_of (sum x y j k) s
unfolding den
floor_sum x y j k m n d e s p q f g =
    let over : suc (sum x y j k).den_less_one ≡ suc x.den_less_one * suc y.den_less_one = same_number _ _ (den_sum x y j k) in
    rw (← p, ← q, f, g) (ap₂ (λ a b. floor_div (a *ℤ pos (2 ^ s)) b) (sym (num_sum x y j k)) (sym over))

-- its ceiling is the opposite of the opposite sum's floor
pub ceil_sum : (x y : Ratio) (j k : ℤ) (s : ℕ) → ceil_scaled_of (sum x y j k) s ≡ neg_ℤ (floor_scaled_of (sum x y (neg_ℤ j) (neg_ℤ k)) s)
unfolding den
ceil_sum x y j k s =
    let over : suc (sum x y j k).den_less_one ≡ suc (sum x y (neg_ℤ j) (neg_ℤ k)).den_less_one = same_number _ _ (den_sum x y j k ∙ sym (den_sum x y (neg_ℤ j) (neg_ℤ k))) in
    let turned : neg_ℤ ((sum x y j k).num *ℤ pos (2 ^ s)) ≡ (sum x y (neg_ℤ j) (neg_ℤ k)).num *ℤ pos (2 ^ s) =
    rw (num_sum x y j k, num_sum x y (neg_ℤ j) (neg_ℤ k)) (opposite_number x.num y.num j k (den x) (den y) (pos (2 ^ s))) in
    ap₂ (λ a b. neg_ℤ (floor_div a b)) turned over
  where
    opposite_number : (a b j k d e u : ℤ) → neg_ℤ (((j *ℤ a) *ℤ e +ℤ (k *ℤ b) *ℤ d) *ℤ u) ≡ ((neg_ℤ j *ℤ a) *ℤ e +ℤ (neg_ℤ k *ℤ b) *ℤ d) *ℤ u
    opposite_number a b j k d e u = ring int_ring (a ∷ b ∷ j ∷ k ∷ d ∷ e ∷ u ∷ []) (search reads depth 40 fits 4000) none_left

-- a number out of range has its opposite out of range
pub opposite_none : (z : ℤ) → None ≡ end_of z → None ≡ end_of (neg_ℤ z)
opposite_none z h = let e : unsigned_abs (neg_ℤ z) ≡ unsigned_abs z = omega (arith, ints) in rw e (grind arith)

ordered_pair : (low high : ℤ) → low ≤ℤ high → ends_of_pair low high ≡ ends_in_range low high
ordered_pair low high h = grind (arith, ints)

-- the floor and the ceiling make the interval
pub pair_is : (low high : ℤ) (s : ℕ) (z : Ratio) → Some low ≡ end_of (floor_scaled_of z s) → Some high ≡ end_of (ceil_scaled_of z s) → ends_of_pair low high ≡ range_ends s z z
pair_is low high s z p q =
    let f = floor_scaled_of z s in
    let c = ceil_scaled_of z s in
    rw (end_is low f p, end_is high c q) (ordered_pair f c (range_ordered s z z (same_value z)))
