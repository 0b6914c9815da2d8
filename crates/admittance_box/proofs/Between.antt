-- The intervals between two lists of values of a series branch hold each value between.
use Rattle.std.proofs.Common.{◌≡◌, ◌∙◌, sym, subst, ℕ, suc, arith, Bool, true, ℤ, Option}
use Rattle.std.proofs.lemmas.Int.{ints}
use Rattle.std.specs.Ordering.{int_eq}
use Rattle.std.specs.Prelude.{Some, IsTrue, ◌&&◌, pos, ◌≤ℤ◌}
use Rattle.exact_algebra.specs.Ratio.{Ratio, den, ◌≈◌, ◌≼◌, whole}
use Rattle.exact_algebra.proofs.Differences.{products}
use Rattle.exact_algebra.proofs.Ratios.{num_nought}
use Rattle.exact_algebra.proofs.WholeOrder.{cancel}
use Rattle.complex_interval.proofs.Ranges.{range_encloses}
use Rattle.admittance_box.specs.declared.series.SeriesValues.{SeriesValues}
use Rattle.admittance_box.specs.Admittance.{SeriesEnds}
use Rattle.admittance_box.specs.Held.{HoldsSeries}
use Rattle.admittance_box.specs.Series.{series_between, ends_between, HoldsBetween}
use Rattle.admittance_box.proofs.Steps.{bind-some, if_some}

-- what lies between 0 and 0 is 0
nought_between : (a b x : Ratio) → a.num ≡ pos 0 → b.num ≡ pos 0 → a ≼ x → x ≼ b → x ≈ whole (pos 0)
unfolding den
nought_between a b x p q h k =
    let low = rw p at h.cross in
    let high = rw q at k.cross in
    let above : pos 0 ≤ℤ x.num = cancel (suc a.den_less_one) (pos 0) x.num (omega arith) (omega (arith, products)) in
    let below : x.num ≤ℤ pos 0 = cancel (suc b.den_less_one) x.num (pos 0) (omega arith) (omega (arith, products)) in
    num_nought x (omega (arith, ints))

both_true : (a b : Bool) → (a && b) ≡ true → (a ≡ true) × (b ≡ true)
both_true a b e = grind arith

is_zero : (n : ℤ) → int_eq n (pos 0) ≡ true → n ≡ pos 0
is_zero n q = grind (arith, ints)

-- what lies between two values that count as 0 is 0
pub nought_where_plain : (a b x : Ratio) → IsTrue (int_eq a.num (pos 0) && int_eq b.num (pos 0)) → a ≼ x → x ≼ b → x ≈ whole (pos 0)
nought_where_plain a b x t p q = let (e, f) = both_true (int_eq a.num (pos 0)) (int_eq b.num (pos 0)) t in nought_between a b x (is_zero a.num e) (is_zero b.num f) p q

pub series_held : (s : ℕ) (r k m x xc r' k' m' x' xc' : Ratio) (p : SeriesEnds) → series_between s r k m x xc r' k' m' x' xc' ≡ Some p
    → (vr vk vm vx vc : Ratio) → r ≼ vr → vr ≼ r' → k ≼ vk → vk ≼ k' → m ≼ vm → vm ≼ m' → x ≼ vx → vx ≼ x' → xc ≼ vc → vc ≼ xc' → HoldsSeries s p vr vk vm vx vc
series_held s r k m x xc r' k' m' x' xc' p e vr vk vm vx vc a1 b1 a2 b2 a3 b3 a4 b4 a5 b5 =
    let (er, e1, n1) = bind-some _ _ p e in
    let (ek, e2, n2) = bind-some _ _ p n1 in
    let (em, e3, n3) = bind-some _ _ p n2 in
    let (ex, e4, n4) = bind-some _ _ p n3 in
    let (ec, e5, e6) = bind-some _ _ p n4 in
    let P : SeriesEnds → Type 0 = λ t. HoldsSeries s t vr vk vm vx vc in
    let is : record { r = er; k = ek; m = em; x = ex; xc = ec; plain = int_eq k.num (pos 0) && int_eq k'.num (pos 0) } ≡ p = cc in
    subst P is (record {
      r_held = range_encloses s _ _ vr a1 b1 er e1;
      k_held = range_encloses s _ _ vk a2 b2 ek e2;
      m_held = range_encloses s _ _ vm a3 b3 em e3;
      x_held = range_encloses s _ _ vx a4 b4 ex e4;
      xc_held = range_encloses s _ _ vc a5 b5 ec e5;
      k_is_nought = λ t. nought_where_plain k k' vk t a2 b2;
    })

pub between_holds : (s : ℕ) (low high : SeriesValues) (o : Option SeriesEnds) → o ≡ ends_between s low high → HoldsBetween s low high o
between_holds s low high o v r k m x xc hr hk hm hx hc =
    if_some o _ (λ p e. series_held s _ _ _ _ _ _ _ _ _ _ p (sym v ∙ e) r k m x xc hr.from hr.to hk.from hk.to hm.from hm.to hx.from hx.to hc.from hc.to)
