-- The threshold per unit and in ohms.
use Rattle.std.proofs.Common.{◌≡◌, pos, refl, [], ◌∷◌}
use Rattle.exact_algebra.specs.Ratio.{Ratio, den, ◌≈◌, ◌≼◌, plus, times, opposite, whole, reciprocal}
use Rattle.exact_algebra.specs.Complex.{Complex, real, square_size}
use Rattle.exact_algebra.proofs.Reader.{reads, ring, linear, weigh, join, none_left}
use Rattle.exact_algebra.proofs.Integers.{int_ring}
use Rattle.exact_algebra.proofs.Ratios.{ratio_ring, ratio_field, times_reciprocal, num-times, den-times}
use Rattle.exact_algebra.proofs.Order.{NotNegative, ratio_order, at_most_is}
use Rattle.network_theory.specs.DrivingPoint.{in_ohms}
use Rattle.network_theory.specs.Threshold.{per_unit}
use Rattle.network_theory.specs.Laws.{WithinOhms}
use Rattle.exact_algebra.proofs.Reals.{den-real}
use Rattle.exact_algebra.proofs.Squares.{square_size-product, square_size-not_negative, den-square}
use Rattle.exact_algebra.proofs.Complexes.{num-square_size}

re-of-real : (x : Ratio) → (real x).re ≡ x.num
unfolding real
re-of-real x = refl

im-of-real : (x : Ratio) → (real x).im ≡ pos 0
unfolding real
im-of-real x = refl

square_size-real : (x : Ratio) → square_size (real x) ≈ times x x
square_size-real x = record { cross = simp (num-square_size, den-square, num-times, den-times, re-of-real, im-of-real, den-real) (ring int_ring (x.num ∷ den x ∷ []) (search reads depth 40 fits 4000) none_left) }

abbrev one : Ratio
one = whole (pos 1)

-- a square of what isn't zero isn't zero
square_apart : (x : Ratio) → ¬ (x ≈ whole (pos 0)) → ¬ (times x x ≈ whole (pos 0))
square_apart x n e =
    let i = reciprocal x in
    ratio_field.unit_apart (linear ratio_ring (x ∷ i ∷ []) (join ratio_ring (weigh ratio_ring (times i i) e) (weigh ratio_ring (opposite (plus one (times x i))) (times_reciprocal x n))) (search reads depth 40 fits 4000) none_left)

-- the two ways, with u for the threshold, w and i for v² and its inverse, s and v for mva and its inverse, z and S for the squares
forward : (u w i s v z S : Ratio) → times w i ≈ one → times s v ≈ one → S ≈ times z (times (times w v) (times w v)) → z ≼ times (times (times u s) i) (times (times u s) i) → S ≼ times u u
forward u w i s v z S e1 e2 e3 h =
    let k = (at_most_is z (times (times (times u s) i) (times (times u s) i))).0 h in
    let P = times s v in
    let Q = times w i in
    let c = times w v in
    (at_most_is S (times u u)).1
    (ratio_order.along
    (linear ratio_ring (u ∷ w ∷ i ∷ s ∷ v ∷ z ∷ S ∷ [])
    (join ratio_ring (weigh ratio_ring (times (times u u) (plus Q one)) e1) (join ratio_ring (weigh ratio_ring (times (times (times u u) (plus P one)) (times Q Q)) e2) (weigh ratio_ring one e3)))
    (search reads depth 60 fits 20000) none_left)
    (ratio_order.product k (not_negative_square c)))
  where
    not_negative_square : (c : Ratio) → NotNegative (times c c)
    not_negative_square c = ratio_order.along (square_size-real c) (square_size-not_negative (real c))

backward : (u w i s v z S : Ratio) → times w i ≈ one → times s v ≈ one → S ≈ times z (times (times w v) (times w v)) → S ≼ times u u → z ≼ times (times (times u s) i) (times (times u s) i)
backward u w i s v z S e1 e2 e3 h =
    let k = (at_most_is S (times u u)).0 h in
    let P = times s v in
    let Q = times w i in
    let d = times s i in
    (at_most_is z (times (times (times u s) i) (times (times u s) i))).1
    (ratio_order.along
    (linear ratio_ring (u ∷ w ∷ i ∷ s ∷ v ∷ z ∷ S ∷ [])
    (join ratio_ring (weigh ratio_ring (opposite (times z (plus Q one))) e1) (join ratio_ring (weigh ratio_ring (opposite (times (times z (plus P one)) (times Q Q))) e2) (weigh ratio_ring (opposite (times d d)) e3)))
    (search reads depth 60 fits 20000) none_left)
    (ratio_order.product k (not_negative_square d)))
  where
    not_negative_square : (c : Ratio) → NotNegative (times c c)
    not_negative_square c = ratio_order.along (square_size-real c) (square_size-not_negative (real c))

pub ohms_square : (kv mva : Ratio) (Z : Complex) → square_size (in_ohms kv mva Z) ≈ times (square_size Z) (times (times (times kv kv) (reciprocal mva)) (times (times kv kv) (reciprocal mva)))
unfolding in_ohms
ohms_square kv mva Z =
    let c = times (times kv kv) (reciprocal mva) in
    ratio_ring.next (square_size-product Z (real c)) (ratio_ring.mul_same (ratio_ring.same (square_size Z)) (square_size-real c))

pub within_ohms : WithinOhms
unfolding per_unit
within_ohms threshold h kv mva Z nk nm =
    let w = times kv kv in
    let e1 = times_reciprocal w (square_apart kv nk) in
    let e2 = times_reciprocal mva nm in
    let e3 = ohms_square kv mva Z in (
      forward (threshold h) w (reciprocal w) mva (reciprocal mva) (square_size Z) _ e1 e2 e3,
      backward (threshold h) w (reciprocal w) mva (reciprocal mva) (square_size Z) _ e1 e2 e3,
    )
