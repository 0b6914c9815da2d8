-- Which of the four quotients of ends is the least and which is the greatest, by the signs of the ends.
use Rattle.std.proofs.Common.{◌≡◌, ◌≢◌, ℕ, suc, zero, ◌^◌, arith}
use Rattle.std.proofs.lemmas.Int.{ints, clamps, by_lt_z}
use lib.IntN.{ℤ, pos, negsuc, ◌*ℤ◌, neg_ℤ}
use lib.Signed.{◌≤ℤ◌, ◌<ℤ◌}
use Rattle.exact_algebra.specs.Floor.{floor_quotient, ceil_quotient}
use Rattle.exact_algebra.proofs.Differences.{products}
use Rattle.exact_algebra.proofs.WholeOrder.{≤ℤ_trans, mul-le_pos, mul-le_below, mul-le_left, mul-le_neg, floor_quotient_pos, floor_quotient_neg}
use Rattle.complex_interval.specs.Ends.{Ends, least_of_four, greatest_of_four, low_quotient, high_quotient}
use Rattle.complex_interval.proofs.EndQuotients.{floor_greatest}

-- a product grows with a factor where the other one is not below zero, and falls where it is not above zero
grows : (m c d : ℤ) → pos 0 ≤ℤ m → c ≤ℤ d → (m *ℤ c) ≤ℤ (m *ℤ d)
grows (pos n) c d p h = mul-le_left n c d h
grows (negsuc n) c d p h = absurd (omega (arith, ints))

falls : (m c d : ℤ) → m ≤ℤ pos 0 → c ≤ℤ d → (m *ℤ d) ≤ℤ (m *ℤ c)
falls (pos zero) c d p h = omega (arith, products)
falls (pos (suc n)) c d p h = absurd (omega (arith, ints))
falls (negsuc n) c d p h = mul-le_neg n c d h

-- the sign of a factor
not_above : (m d : ℤ) → pos 0 <ℤ d → (m *ℤ d) ≤ℤ pos 0 → m ≤ℤ pos 0
not_above m d p h = by_lt_z (pos 0) m (λ less. let k = mul-le_pos d (pos 1) m p (omega (arith, ints)) in absurd (omega (arith, products))) (λ done. done)

not_above_by : (m d : ℤ) → d <ℤ pos 0 → pos 0 ≤ℤ (m *ℤ d) → m ≤ℤ pos 0
not_above_by m d p h = by_lt_z (pos 0) m (λ less. let k = mul-le_below d (pos 1) m p (omega (arith, ints)) in absurd (omega (arith, products))) (λ done. done)

-- the least of the four quotients of p and q by c and d
abbrev pub least_quotient_of : ℤ → ℤ → ℤ → ℤ → ℤ
least_quotient_of p q c d = least_of_four (floor_quotient p c) (floor_quotient p d) (floor_quotient q c) (floor_quotient q d)

first_is_least : (v w x y : ℤ) → v ≤ℤ w → v ≤ℤ x → v ≤ℤ y → v ≡ least_of_four v w x y
first_is_least v w x y a b c = omega (arith, ints, clamps)

second_is_least : (v w x y : ℤ) → w ≤ℤ v → w ≤ℤ x → w ≤ℤ y → w ≡ least_of_four v w x y
second_is_least v w x y a b c = omega (arith, ints, clamps)

third_is_least : (v w x y : ℤ) → x ≤ℤ v → x ≤ℤ w → x ≤ℤ y → x ≡ least_of_four v w x y
third_is_least v w x y a b c = omega (arith, ints, clamps)

fourth_is_least : (v w x y : ℤ) → y ≤ℤ v → y ≤ℤ w → y ≤ℤ x → y ≡ least_of_four v w x y
fourth_is_least v w x y a b c = omega (arith, ints, clamps)

module _ (p q c d : ℤ) (pq : p ≤ℤ q) (cd : c ≤ℤ d) where
  module _ (above : pos 0 <ℤ c) where
    top : pos 0 <ℤ d
    top = omega (arith, ints)

    some_low : c ≢ pos 0
    some_low = omega (arith, ints)

    some_high : d ≢ pos 0
    some_high = omega (arith, ints)

    at_most : (m z e : ℤ) → pos 0 <ℤ e → (m *ℤ e) ≤ℤ z → m ≤ℤ floor_quotient z e
    at_most m z e pe h = floor_greatest m z e (omega (arith, ints)) (record { above = λ _. h; below = λ n. absurd (omega (arith, ints)) })

    pub low_above_down : p ≤ℤ pos 0 → floor_quotient p c ≡ least_quotient_of p q c d
    low_above_down n =
        let m = floor_quotient p c in
        let h = floor_quotient_pos p c above in
        let k = falls m c d (not_above m c above (≤ℤ_trans _ _ _ h n)) cd in
        first_is_least _ _ _ _
        (at_most m p d top (≤ℤ_trans _ _ _ k h))
        (at_most m q c above (≤ℤ_trans _ _ _ h pq))
        (at_most m q d top (≤ℤ_trans _ _ _ k (≤ℤ_trans _ _ _ h pq)))

    pub low_above_up : pos 0 ≤ℤ p → floor_quotient p d ≡ least_quotient_of p q c d
    low_above_up n =
        let m = floor_quotient p d in
        let h = floor_quotient_pos p d top in
        let k = grows m c d (at_most (pos 0) p d top (omega (arith, products))) cd in
        second_is_least _ _ _ _
        (at_most m p c above (≤ℤ_trans _ _ _ k h))
        (at_most m q c above (≤ℤ_trans _ _ _ k (≤ℤ_trans _ _ _ h pq)))
        (at_most m q d top (≤ℤ_trans _ _ _ h pq))

  module _ (below : d <ℤ pos 0) where
    bottom : c <ℤ pos 0
    bottom = omega (arith, ints)

    at_most_by : (m z e : ℤ) → e <ℤ pos 0 → z ≤ℤ (m *ℤ e) → m ≤ℤ floor_quotient z e
    at_most_by m z e pe h = floor_greatest m z e (omega (arith, ints)) (record { above = λ n. absurd (omega (arith, ints)); below = λ _. h })

    pub low_below_down : q ≤ℤ pos 0 → floor_quotient q c ≡ least_quotient_of p q c d
    low_below_down n =
        let m = floor_quotient q c in
        let h = floor_quotient_neg q c bottom in
        let k = grows m c d (at_most_by (pos 0) q c bottom (omega (arith, products))) cd in
        third_is_least _ _ _ _
        (at_most_by m p c bottom (≤ℤ_trans _ _ _ pq h))
        (at_most_by m p d below (≤ℤ_trans _ _ _ pq (≤ℤ_trans _ _ _ h k)))
        (at_most_by m q d below (≤ℤ_trans _ _ _ h k))

    pub low_below_up : pos 0 ≤ℤ q → floor_quotient q d ≡ least_quotient_of p q c d
    low_below_up n =
        let m = floor_quotient q d in
        let h = floor_quotient_neg q d below in
        let k = falls m c d (not_above_by m d below (≤ℤ_trans _ _ _ n h)) cd in
        fourth_is_least _ _ _ _
        (at_most_by m p c bottom (≤ℤ_trans _ _ _ pq (≤ℤ_trans _ _ _ h k)))
        (at_most_by m p d below (≤ℤ_trans _ _ _ pq h))
        (at_most_by m q c bottom (≤ℤ_trans _ _ _ h k))

-- the greatest of the opposites is the opposite of the least
opposite_least : (v w x y : ℤ) → neg_ℤ (least_of_four v w x y) ≡ greatest_of_four (neg_ℤ x) (neg_ℤ y) (neg_ℤ v) (neg_ℤ w)
opposite_least v w x y = omega (arith, ints, clamps)

opposite_order : (p q : ℤ) → p ≤ℤ q → neg_ℤ q ≤ℤ neg_ℤ p
opposite_order p q h = omega (arith, ints)

-- the greatest of the four quotients, from the least of those of the opposite dividends
module _ (p q c d : ℤ) where
  high_from : (z e : ℤ) → floor_quotient (neg_ℤ z) e ≡ least_quotient_of (neg_ℤ q) (neg_ℤ p) c d → ceil_quotient z e ≡ greatest_of_four (ceil_quotient p c) (ceil_quotient p d) (ceil_quotient q c) (ceil_quotient q d)
  high_from z e h = rw h (opposite_least (floor_quotient (neg_ℤ q) c) (floor_quotient (neg_ℤ q) d) (floor_quotient (neg_ℤ p) c) (floor_quotient (neg_ℤ p) d))

-- the same of ends times 2^scale
module _ (s : ℕ) (a b : Ends) (ordered : a.low ≤ℤ a.high) (divisor : b.low ≤ℤ b.high) where
  abbrev low : ℤ
  low = a.low *ℤ pos (2 ^ s)

  abbrev high : ℤ
  high = a.high *ℤ pos (2 ^ s)

  scaled : (x y : ℤ) → x ≤ℤ y → (x *ℤ pos (2 ^ s)) ≤ℤ (y *ℤ pos (2 ^ s))
  scaled x y h = omega (arith, products, mul-le_left (2 ^ s) x y h)

  scaled_below : (x : ℤ) → x ≤ℤ pos 0 → (x *ℤ pos (2 ^ s)) ≤ℤ pos 0
  scaled_below x h = omega (arith, products, mul-le_left (2 ^ s) x (pos 0) h)

  scaled_above : (x : ℤ) → pos 0 ≤ℤ x → pos 0 ≤ℤ (x *ℤ pos (2 ^ s))
  scaled_above x h = omega (arith, products, mul-le_left (2 ^ s) (pos 0) x h)

  pub low_corner_above_down : pos 0 <ℤ b.low → a.low ≤ℤ pos 0 → floor_quotient (a.low *ℤ pos (2 ^ s)) b.low ≡ low_quotient s a b
  low_corner_above_down above n = low_above_down low high b.low b.high (scaled _ _ ordered) divisor above (scaled_below _ n)

  pub low_corner_above_up : pos 0 <ℤ b.low → pos 0 ≤ℤ a.low → floor_quotient (a.low *ℤ pos (2 ^ s)) b.high ≡ low_quotient s a b
  low_corner_above_up above n = low_above_up low high b.low b.high (scaled _ _ ordered) divisor above (scaled_above _ n)

  pub low_corner_below_down : b.high <ℤ pos 0 → a.high ≤ℤ pos 0 → floor_quotient (a.high *ℤ pos (2 ^ s)) b.low ≡ low_quotient s a b
  low_corner_below_down below n = low_below_down low high b.low b.high (scaled _ _ ordered) divisor below (scaled_below _ n)

  pub low_corner_below_up : b.high <ℤ pos 0 → pos 0 ≤ℤ a.high → floor_quotient (a.high *ℤ pos (2 ^ s)) b.high ≡ low_quotient s a b
  low_corner_below_up below n = low_below_up low high b.low b.high (scaled _ _ ordered) divisor below (scaled_above _ n)

  pub high_corner_above_down : pos 0 <ℤ b.low → a.high ≤ℤ pos 0 → ceil_quotient (a.high *ℤ pos (2 ^ s)) b.high ≡ high_quotient s a b
  high_corner_above_down above n =
      high_from low high b.low b.high high b.high
      (low_above_up (neg_ℤ high) (neg_ℤ low) b.low b.high (opposite_order _ _ (scaled _ _ ordered)) divisor above (opposite_order high (pos 0) (scaled_below _ n)))

  pub high_corner_above_up : pos 0 <ℤ b.low → pos 0 ≤ℤ a.high → ceil_quotient (a.high *ℤ pos (2 ^ s)) b.low ≡ high_quotient s a b
  high_corner_above_up above n =
      high_from low high b.low b.high high b.low
      (low_above_down (neg_ℤ high) (neg_ℤ low) b.low b.high (opposite_order _ _ (scaled _ _ ordered)) divisor above (opposite_order (pos 0) high (scaled_above _ n)))

  pub high_corner_below_down : b.high <ℤ pos 0 → a.low ≤ℤ pos 0 → ceil_quotient (a.low *ℤ pos (2 ^ s)) b.high ≡ high_quotient s a b
  high_corner_below_down below n =
      high_from low high b.low b.high low b.high
      (low_below_up (neg_ℤ high) (neg_ℤ low) b.low b.high (opposite_order _ _ (scaled _ _ ordered)) divisor below (opposite_order low (pos 0) (scaled_below _ n)))

  pub high_corner_below_up : b.high <ℤ pos 0 → pos 0 ≤ℤ a.low → ceil_quotient (a.low *ℤ pos (2 ^ s)) b.low ≡ high_quotient s a b
  high_corner_below_up below n =
      high_from low high b.low b.high low b.low
      (low_below_down (neg_ℤ high) (neg_ℤ low) b.low b.high (opposite_order _ _ (scaled _ _ ordered)) divisor below (opposite_order (pos 0) low (scaled_above _ n)))
