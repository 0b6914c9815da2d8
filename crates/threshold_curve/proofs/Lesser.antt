-- The order of fractions, and the lesser of two.
use Rattle.std.proofs.Common.{◌≡◌, ◌⊎◌, inl, inr, T, Bool, true, false, ℤ, ◌*ℤ◌, ◌≤ℤ◌, refl, sym, ap, subst, [], ◌∷◌, arith}
use Rattle.std.specs.Prelude.{int_le, if◌then◌else◌}
use Rattle.std.proofs.lemmas.Int.{ints, by_lt_z}
use lib.Signed.{le_z_yes}
use Rattle.exact_algebra.specs.Ratio.{Ratio, den, ◌≈◌, ◌≼◌}
use Rattle.exact_algebra.proofs.Reader.{reads, ring, none_left}
use Rattle.exact_algebra.proofs.Ratios.{ratio_ring}
use Rattle.exact_algebra.proofs.Order.{ratio_order, at_most_is}
use Rattle.threshold_curve.specs.Curve.{lesser}

pub at_most_self : (x : Ratio) → x ≼ x
at_most_self x = record { cross = omega (arith, ints) }

-- equal ones are at most each other
pub at_most_same : {x y : Ratio} → x ≈ y → x ≼ y
at_most_same {x} {y} same = record { cross = subst (λ z. (x.num *ℤ den y) ≤ℤ z) same.cross (omega (arith, ints)) }

pub at_most_next : {x y z : Ratio} → x ≼ y → y ≼ z → x ≼ z
at_most_next {x} {y} {z} below above =
    (at_most_is x z).1
    (ratio_order.along (ring ratio_ring (x ∷ y ∷ z ∷ []) (search reads depth 40 fits 4000) none_left)
    (ratio_order.sum ((at_most_is x y).0 below) ((at_most_is y z).0 above)))

at_most_true : (a b : ℤ) → int_le a b ≡ true → a ≤ℤ b
at_most_true a b e = le_z_yes (subst T (sym e) tt)

above_false : (a b : ℤ) → int_le a b ≡ false → b ≤ℤ a
above_false a b e = by_lt_z b a (λ less. omega (arith, ints)) (λ most. absurd (subst T e most.le))

true_at_most : (a b : ℤ) → a ≤ℤ b → int_le a b ≡ true
true_at_most a b most = by (int_le a b) refl
  where
    by : (t : Bool) → int_le a b ≡ t → t ≡ true
    by true e = refl
    by false e = absurd (subst T e most.le)

-- the lesser is the one, which is at most the other
choice : (t : Bool) (x y : Ratio) → int_le (x.num *ℤ den y) (y.num *ℤ den x) ≡ t
    → ((if t then x else y) ≡ x × (x ≼ y)) ⊎ ((if t then x else y) ≡ y × (y ≼ x))
choice true x y e = inl (refl, record { cross = at_most_true _ _ e })
choice false x y e = inr (refl, record { cross = above_false _ _ e })

pub lesser_is : (x y : Ratio) → (lesser x y ≡ x × (x ≼ y)) ⊎ (lesser x y ≡ y × (y ≼ x))
unfolding lesser
lesser_is x y = choice _ x y refl

pub lesser_first : (x y : Ratio) → lesser x y ≼ x
lesser_first x y = elim (lesser_is x y) [
  | inl (e, l) ↦ subst (λ z. z ≼ x) (sym e) (at_most_self x)
  | inr (e, l) ↦ subst (λ z. z ≼ x) (sym e) l
]

pub lesser_second : (x y : Ratio) → lesser x y ≼ y
lesser_second x y = elim (lesser_is x y) [
  | inl (e, l) ↦ subst (λ z. z ≼ y) (sym e) l
  | inr (e, l) ↦ subst (λ z. z ≼ y) (sym e) (at_most_self y)
]

pub lesser_at_most : (x y : Ratio) → x ≼ y → lesser x y ≡ x
unfolding lesser
lesser_at_most x y below = if_true below.cross
  where
    if_true : (x.num *ℤ den y) ≤ℤ (y.num *ℤ den x) → (if int_le (x.num *ℤ den y) (y.num *ℤ den x) then x else y) ≡ x
    if_true most = ap (λ t. if t then x else y) (true_at_most _ _ most)

pub lesser_above : (x y : Ratio) → ¬ (x ≼ y) → lesser x y ≡ y
lesser_above x y above = elim (lesser_is x y) [
  | inl (e, l) ↦ absurd (above l)
  | inr (e, l) ↦ e
]
