-- Equal fractions, by two comparisons.
use Rattle.std.proofs.Common.{◌≡◌, ◌≢◌, ◌⊎◌, inl, inr, suc, Bool, true, false, refl, sym, arith, ℤ, pos, ◌*ℤ◌, ◌≤ℤ◌}
use Rattle.std.proofs.lemmas.Int.{ints}
use Rattle.std.specs.Ordering.{int_eq}
use Rattle.std.specs.Prelude.{IsTrue, ◌&&◌, ◌↔◌}
use Rattle.exact_algebra.specs.Ratio.{Ratio, den, ◌≼◌}
use Rattle.branchwise_test.specs.Drops.{is_same}

equal_or_not : (a b : ℤ) (t : Bool) → int_eq a b ≡ t → ((a ≡ b) × (t ≡ true)) ⊎ ((a ≢ b) × (t ≡ false))
equal_or_not a b true e = inl (grind (arith, ints), refl)
equal_or_not a b false e = inr (grind (arith, ints), refl)

pub same_tests : (x y : Ratio) (t u : Bool) → (IsTrue t ↔ (x ≼ y)) → (IsTrue u ↔ (y ≼ x)) → (t && u) ≡ is_same x y
unfolding den
same_tests x y t u p q = go t u (is_same x y) (equal_or_not _ _ (is_same x y) refl) p q
  where
    both_ways : (m n : ℤ) → m ≤ℤ n → n ≤ℤ m → m ≡ n
    both_ways m n h k = omega (arith, ints, h, k)

    up : (m n : ℤ) → m ≡ n → m ≤ℤ n
    up m n h = omega (arith, ints, h)

    go : (t u b : Bool) → ((x.num *ℤ pos (suc y.den_less_one) ≡ y.num *ℤ pos (suc x.den_less_one)) × (b ≡ true)) ⊎ ((x.num *ℤ pos (suc y.den_less_one) ≢ y.num *ℤ pos (suc x.den_less_one)) × (b ≡ false))
        → (IsTrue t ↔ (x ≼ y)) → (IsTrue u ↔ (y ≼ x)) → (t && u) ≡ b
    go true true b (inl e) p q = sym e.1
    go true true b (inr e) p q = absurd (e.0 (both_ways _ _ (p.0 refl).cross (q.0 refl).cross))
    go true false b (inl e) p q = absurd (let k : IsTrue false = q.1 (record { cross = up _ _ (sym e.0) }) in cc)
    go true false b (inr e) p q = sym e.1
    go false u b (inl e) p q = absurd (let k : IsTrue false = p.1 (record { cross = up _ _ e.0 }) in cc)
    go false u b (inr e) p q = sym e.1
