-- Impedances against a threshold, by their reciprocals.
use Rattle.std.proofs.Common.{ℤ, pos, ◌≤ℤ◌, ◌<ℤ◌, arith, [], ◌∷◌}
use Rattle.std.proofs.lemmas.Int.{ints, by_lt_z}
use Rattle.exact_algebra.specs.Ratio.{Ratio, ◌≈◌, ◌≼◌, ◌≺◌, times, opposite, whole}
use Rattle.exact_algebra.specs.Complex.{Complex, ◌≅◌, complex_numbers, square_size}
use Rattle.exact_algebra.proofs.Reader.{reads, linear, weigh, none_left}
use Rattle.exact_algebra.proofs.Ratios.{ratio_ring, num-whole, one_apart}
use Rattle.exact_algebra.proofs.Order.{NotNegative, ratio_order, at_most_is}
use Rattle.exact_algebra.proofs.Squares.{square_size-along, square_size-nought, square_size-not_negative, sizes_of_inverse}
use Rattle.network_theory.specs.Threshold.{IsWithin, IsAbove}
open complex_numbers use {◌⊗◌, nought, unit}

-- |Z|² ≤ T², where 1 ≤ T²|y|²
pub within_by : (T : Ratio) (Z y : Complex) → (Z ⊗ y) ≅ unit → whole (pos 1) ≼ times (times T T) (square_size y) → IsWithin T Z
within_by T Z y e h =
    let z = square_size Z in
    let w = square_size y in
    let one = whole (pos 1) in
    let k = (at_most_is one (times (times T T) w)).0 h in
    (at_most_is z (times T T)).1
    (ratio_order.along
    (linear ratio_ring (T ∷ z ∷ w ∷ []) (weigh ratio_ring (times T T) (sizes_of_inverse Z y e)) (search reads depth 40 fits 4000) none_left)
    (ratio_order.product (square_size-not_negative Z) k))

not_above : (a b : ℤ) → ¬ (b ≤ℤ a) → a <ℤ b
not_above a b h = by_lt_z a b (λ l. l) (λ l. absurd (h l))

-- |Z|² > T², where T²|y|² < 1
pub above_by : (T : Ratio) (Z y : Complex) → (Z ⊗ y) ≅ unit → times (times T T) (square_size y) ≺ whole (pos 1) → IsAbove T Z
above_by T Z y e h =
    let z = square_size Z in
    let w = square_size y in
    let one = whole (pos 1) in
    record {
      cross = not_above _ _ (λ c.
          let k = (at_most_is z (times T T)).0 (record { cross = c }) in
          let g : one ≼ times (times T T) w =
          (at_most_is one (times (times T T) w)).1
          (ratio_order.along
          (linear ratio_ring (T ∷ z ∷ w ∷ []) (weigh ratio_ring (opposite one) (sizes_of_inverse Z y e)) (search reads depth 40 fits 4000) none_left)
          (ratio_order.product k (square_size-not_negative y))) in
          clash _ _ h.cross g.cross);
    }
  where
    clash : (a b : ℤ) → a <ℤ b → b ≤ℤ a → ⊥
    clash a b p q = omega (arith, ints)

-- what is not below a threshold isn't zero
pub apart_by : (T : Ratio) (y : Complex) → whole (pos 1) ≼ times (times T T) (square_size y) → ¬ (y ≅ nought)
apart_by T y h e =
    let w = square_size y in
    let one = whole (pos 1) in
    let z : w ≈ whole (pos 0) = ratio_ring.next (square_size-along y nought e) square_size-nought in
    let k = (at_most_is one (times (times T T) w)).0 h in
    let n : NotNegative (opposite one) = ratio_order.along (linear ratio_ring (T ∷ w ∷ []) (weigh ratio_ring (times T T) z) (search reads depth 40 fits 4000) none_left) k in
    one_apart (ratio_order.both (record { value = 1; is = num-whole (pos 1) }) n)
