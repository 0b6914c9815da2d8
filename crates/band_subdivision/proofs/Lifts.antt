-- What is shown with the threshold of a box is true with that of each order.
use Rattle.std.proofs.Common.{ℕ, ℤ, pos, ◌≤ℤ◌, ◌<ℤ◌, ◌*ℤ◌, refl, subst, arith, [], ◌∷◌}
use Rattle.std.proofs.lemmas.Int.{ints, by_lt_z}
use Rattle.exact_algebra.specs.Ratio.{Ratio, den, ◌≈◌, ◌≼◌, ◌≺◌, plus, times, opposite, whole, reciprocal}
use Rattle.exact_algebra.specs.Complex.{Complex, square_size}
use Rattle.exact_algebra.proofs.Reader.{reads, ring, linear, weigh, none_left}
use Rattle.exact_algebra.proofs.Ratios.{ratio_ring}
use Rattle.exact_algebra.proofs.Order.{NotNegative, ratio_order, at_most_is}
use Rattle.exact_algebra.proofs.Quotients.{not_negative_in, square_not_negative}
use Rattle.network_theory.specs.Order.{Order, IsOrder}
use Rattle.network_theory.specs.Box.{LiesIn}
use Rattle.network_theory.specs.Network.{Network}
use Rattle.network_theory.specs.Threshold.{Threshold, flat, per_unit, IsWithin, IsAbove}
use Rattle.network_theory.specs.Scanned.{micro, IsClearedAt, IsPeak}
use Rattle.band_subdivision.specs.Boxes.{IsTestable}
use Rattle.band_subdivision.specs.Levels.{Levels, AreScanLevels, AreLevelsOf, orders, in_ohms_of}
use Rattle.band_subdivision.specs.Truth.{millionths}
use Rattle.band_subdivision.proofs.LevelValues.{threshold_at, volts_apart, above_zero}

pub at_most_along : (x y z : Ratio) → z ≈ y → x ≼ y → x ≼ z
at_most_along x y z e h =
    (at_most_is x z).1 (ratio_order.along (linear ratio_ring (x ∷ y ∷ z ∷ []) (weigh ratio_ring (opposite (whole (pos 1))) e) (search reads depth 40 fits 4000) none_left) ((at_most_is x y).0 h))

pub less_unless : (x y : Ratio) → ¬ (y ≼ x) → x ≺ y
less_unless x y h = record { cross = by_lt_z (x.num *ℤ den y) (y.num *ℤ den x) (λ l. l) (λ l. absurd (h (record { cross = l }))) }

clash : (x y : Ratio) → x ≺ y → y ≼ x → ⊥
clash x y h l = apart _ _ h.cross l.cross
  where
    apart : (a b : ℤ) → a <ℤ b → b ≤ℤ a → ⊥
    apart a b p q = omega (arith, ints)

-- the threshold per unit grows with that in ohms
module _ (A th S r : Ratio) (more : NotNegative (plus th (opposite A))) (natural : NotNegative A) (scale : NotNegative (times S r)) where
  pub grown : NotNegative (plus (times (times th S) r) (opposite (times (times A S) r)))
  grown = ratio_order.along (ring ratio_ring (A ∷ th ∷ S ∷ r ∷ []) (search reads depth 40 fits 4000) none_left) (ratio_order.product more scale)

  pub below : NotNegative (times (times A S) r)
  below = ratio_order.along (ring ratio_ring (A ∷ S ∷ r ∷ []) (search reads depth 40 fits 4000) none_left) (ratio_order.product natural scale)

-- what is within a threshold is within a greater one
within_more : (T U : Ratio) (Z : Complex) → NotNegative T → NotNegative (plus U (opposite T)) → IsWithin T Z → IsWithin U Z
within_more T U Z natural up h =
    let z = square_size Z in
    (at_most_is z (times U U)).1
    (ratio_order.along (ring ratio_ring (T ∷ U ∷ z ∷ []) (search reads depth 40 fits 4000) none_left)
    (ratio_order.sum (ratio_order.sum (ratio_order.product up up) (ratio_order.sum (ratio_order.product natural up) (ratio_order.product natural up))) ((at_most_is z (times T T)).0 h)))

module _ (levels : Levels) (h : AreScanLevels levels) where
  abbrev V : Ratio
  V = millionths levels.kv

  abbrev S : Ratio
  S = millionths levels.mva

  abbrev r : Ratio
  r = reciprocal (times V V)

  inverse_squares : NotNegative r
  inverse_squares =
      ratio_order.along (linear ratio_ring (V ∷ r ∷ []) (weigh ratio_ring r (volts_apart levels h)) (search reads depth 40 fits 4000) none_left)
      (ratio_order.product (square_not_negative V) (square_not_negative r))

  base : NotNegative (times S r)
  base = ratio_order.product (not_negative_in S (let some = above_zero levels.mva _ h.mva.0 in omega (arith, ints, some))) inverse_squares

  ohms_natural : NotNegative (in_ohms_of levels.threshold)
  ohms_natural = ratio_order.product (not_negative_in levels.threshold (let some = h.some in omega (arith, ints, some))) (record { value = 1; is = refl })

  pub clear_lifted : (threshold : Threshold) (network : Network) (k : ℕ) (at : Order) → in_ohms_of levels.threshold ≼ threshold at → IsClearedAt network at k (threshold_at levels at)
      → IsClearedAt network at k (per_unit threshold V S at)
  unfolding per_unit
  clear_lifted threshold network k at up c =
      let A = in_ohms_of levels.threshold in
      let th = threshold at in
      let more = (at_most_is A th).0 up in
      record { Z = c.Z; exists = c.exists; within = within_more (times (times A S) r) (times (times th S) r) c.Z (below A th S r more ohms_natural base) (grown A th S r more ohms_natural base) c.within }

  above_along : (T U : Ratio) (Z : Complex) → T ≈ U → IsAbove T Z → IsAbove U Z
  above_along T U Z e a =
      let z = square_size Z in
      less_unless (times U U) z (λ l. clash (times T T) z a (at_most_along z (times U U) (times T T) (ratio_ring.mul_same e e) l))

  pub peak_lifted : (threshold : Threshold) (network : Network) (k at ohms : ℕ) → in_ohms_of levels.threshold ≈ threshold (micro at) → IsPeak network k (flat (in_ohms_of levels.threshold)) V S (orders at at) at ohms
      → IsPeak network k threshold V S (orders at at) at ohms
  unfolding per_unit
  peak_lifted threshold network k at ohms e p = record {
    is_order = p.is_order;
    inside = p.inside;
    there = record { Z = p.there.Z; exists = p.there.exists; above = above_along _ _ p.there.Z (ratio_ring.mul_same (ratio_ring.mul_same e (ratio_ring.same S)) (ratio_ring.same r)) p.there.above };
    ohms = p.ohms;
  }

-- so with the levels of boxes for a threshold
module _ (from : ℕ) (threshold : Threshold) (kv mva : ℤ) (levels : ℕ → ℕ → Levels) (of : AreLevelsOf from threshold kv mva levels) (network : Network) (k : ℕ) where
  pub clear_with : (lo hi : ℕ) (h : Order) → IsTestable from lo hi → IsOrder h → LiesIn h (orders lo hi) → IsClearedAt network h k (threshold_at (levels lo hi) h) → IsClearedAt network h k (per_unit threshold (millionths kv) (millionths mva) h)
  clear_with lo hi h testable is_order inside c =
      let lifted = clear_lifted (levels lo hi) (of.in_range lo hi testable) threshold network k h (of.below lo hi h testable is_order inside) c in
      let moved = subst (λ v. IsClearedAt network h k (per_unit threshold (millionths v) (millionths (levels lo hi).mva) h)) (of.same_kv lo hi) lifted in
      subst (λ s. IsClearedAt network h k (per_unit threshold (millionths kv) (millionths s) h)) (of.same_mva lo hi) moved

  pub peak_with : (at ohms : ℕ) → IsTestable from at at → IsPeak network k (flat (in_ohms_of (levels at at).threshold)) (millionths (levels at at).kv) (millionths (levels at at).mva) (orders at at) at ohms
      → IsPeak network k threshold (millionths kv) (millionths mva) (orders at at) at ohms
  peak_with at ohms testable p =
      let lifted = peak_lifted (levels at at) (of.in_range at at testable) threshold network k at ohms (of.reached at testable) p in
      let moved = subst (λ v. IsPeak network k threshold (millionths v) (millionths (levels at at).mva) (orders at at) at ohms) (of.same_kv at at) lifted in
      subst (λ s. IsPeak network k threshold (millionths kv) (millionths s) (orders at at) at ohms) (of.same_mva at at) moved
