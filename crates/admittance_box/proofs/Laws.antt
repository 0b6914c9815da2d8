-- What the admittance of a branch on pairs of ends holds. These laws know nothing of the trait of intervals.
use Rattle.std.proofs.Common.{◌≡◌, ℕ, refl, sym, subst, ◌∙◌, Bool, true, false, Option, pos}
use Rattle.std.specs.Prelude.{Some, None, IsTrue, ◌==◌, ◌&&◌, if◌then◌else◌, nat_le}
use Rattle.exact_algebra.specs.Ratio.{Ratio, ◌≈◌, times, whole, reciprocal}
use Rattle.exact_algebra.specs.Complex.{Complex, ◌≅◌, complex_numbers, complex_whole, complex_reciprocal, ◌+j◌}
use Rattle.exact_algebra.proofs.Complexes.{complex_field, re-complex_whole, im-complex_whole}
use Rattle.exact_algebra.proofs.Holding.{holds_along}
use Rattle.exact_algebra.proofs.Quotients.{quotient_is}
use Rattle.exact_algebra.proofs.Ratios.{ratio_ring, times_reciprocal}
use Rattle.exact_algebra.proofs.Reals.{re-plus_j, im-plus_j}
use Rattle.complex_interval.specs.Ends.{Ends, Encloses, zero_between, mig_of, div_ends}
use Rattle.complex_interval.specs.Rectangles.{Rectangle, EnclosesComplex, div_rectangles, div_along, div_across}
use Rattle.complex_interval.proofs.RectangleLaws.{div_side, apart_of, div_encloses_rectangle}
use Rattle.complex_interval.proofs.Held.{outside, add_encloses, sub_encloses, mul_encloses, div_encloses, square_encloses}
use Rattle.network_theory.specs.Order.{Order, fraction}
use Rattle.network_theory.specs.Admittance.{IsAdmittance}
use Rattle.network_theory.specs.Branch.{Series}
use Rattle.network_theory.specs.Impedance.{resistance, reactance, series_impedance, shunt_admittance}
use Rattle.network_theory.proofs.OneBus.{resistance_plain}
use Rattle.admittance_box.specs.Exact.{zero_ends, one_ends, one_rectangle}
use Rattle.plain_elimination.specs.Matrix.{nought_rectangle}
use Rattle.admittance_box.specs.Admittance.{SeriesEnds, skin_ends, resistance_ends, reactance_ends, series_admittance_rectangle, shunt_admittance_rectangle}
use Rattle.admittance_box.specs.Held.{HoldsSeries, HoldsResistance, HoldsSeriesAdmittance, HoldsShuntAdmittance}
use Rattle.admittance_box.proofs.Ranges.{one_encloses, zero_encloses}
use Rattle.admittance_box.proofs.Steps.{bind-some, if_some}

-- ---- divisors
-- what ends of a mig above 0 hold is not zero
mig_apart : (s : ℕ) (a : Ends) (x : Ratio) → (mig_of a == 0) ≡ false → Encloses s a x → ¬ (x ≈ whole (pos 0))
mig_apart s a x e p = by (zero_between a) refl
  where
    by : (t : Bool) → zero_between a ≡ t → ¬ (x ≈ whole (pos 0))
    by true z = absurd (let k : (mig_of a == 0) ≡ true = rw z in cc)
    by false z = apart_of s a x (outside a z) p

-- a divisor of a quotient with a value is not zero
pub divisor_apart : (s : ℕ) (a b r : Rectangle) (w : Complex) → EnclosesComplex s b w → div_rectangles s a b ≡ Some r → ¬ (w ≅ complex_whole (pos 0))
divisor_apart s a b r w p e = by (mig_of b.re == 0) (mig_of b.im == 0) refl refl e
  where
    by : (t u : Bool) → (mig_of b.re == 0) ≡ t → (mig_of b.im == 0) ≡ u → (if t && u then None else if nat_le (mig_of b.im) (mig_of b.re) then div_along s a b else div_across s a b) ≡ Some r → ¬ (w ≅ complex_whole (pos 0))
    by true true i j h = absurd cc
    by true false i j h = λ k. mig_apart s b.im _ j p.im (ratio_ring.next k.im (im-complex_whole (pos 0)))
    by false u i j h = λ k. mig_apart s b.re _ i p.re (ratio_ring.next k.re (re-complex_whole (pos 0)))

-- a quotient with a value holds x/y
quotient_encloses : (s : ℕ) (a b r : Ends) (x y : Ratio) → Encloses s a x → Encloses s b y → div_ends s a b ≡ Some r → Encloses s r (times x (reciprocal y))
quotient_encloses s a b r x y p q e =
    let inverse = times_reciprocal y (apart_of s b y (div_side s a b r e) q) in
    div_encloses s a b x y (times x (reciprocal y)) p q (quotient_is y x (reciprocal y) inverse) r e

-- ---- resistance
pub skin_encloses : (s : ℕ) (r k m order a : Ends) (h : Order) (vr vk vm : Ratio) → Encloses s order (fraction h) → Encloses s r vr → Encloses s k vk → Encloses s m vm
    → skin_ends s r k m order ≡ Some a → Encloses s a (resistance vr vk vm h)
unfolding resistance
skin_encloses s r k m order a h vr vk vm ho hr hk hm e =
    let (raised, e1, n1) = bind-some _ _ a e in
    let (top, e2, n2) = bind-some _ _ a n1 in
    let (square, e3, n3) = bind-some _ _ a n2 in
    let (bottom, e4, n4) = bind-some _ _ a n3 in
    let (falling, e5, n5) = bind-some _ _ a n4 in
    let (factor, e6, e7) = bind-some _ _ a n5 in
    let h_raised = add_encloses s (one_ends s) k _ vk (one_encloses s) hk raised e1 in
    let h_top = mul_encloses s k m vk vm hk hm top e2 in
    let h_square = square_encloses s order (fraction h) ho square e3 in
    let h_bottom = add_encloses s m square vm _ hm h_square bottom e4 in
    let h_falling = quotient_encloses s top bottom falling _ _ h_top h_bottom e5 in
    mul_encloses s r factor vr _ hr (sub_encloses s raised falling _ _ h_raised h_falling factor e6) a e7

pub resistance_encloses : (s : ℕ) (plain : Bool) (r k m order a : Ends) (h : Order) (vr vk vm : Ratio) → Encloses s order (fraction h) → Encloses s r vr → Encloses s k vk → Encloses s m vm
    → (IsTrue plain → vk ≈ whole (pos 0)) → resistance_ends s plain r k m order ≡ Some a → Encloses s a (resistance vr vk vm h)
resistance_encloses s true r k m order a h vr vk vm ho hr hk hm n e =
    let P : Ends → Type 0 = λ t. Encloses s t (resistance vr vk vm h) in
    let same : r ≡ a = cc in
    subst P same (holds_along _ _ s _ _ (ratio_ring.back (resistance_plain vr vk vm h (n refl))) hr)
resistance_encloses s false r k m order a h vr vk vm ho hr hk hm n e = skin_encloses s r k m order a h vr vk vm ho hr hk hm e

-- ---- reactance
pub reactance_encloses : (s : ℕ) (x xc order a : Ends) (h : Order) (vx vc : Ratio) → Encloses s order (fraction h) → Encloses s x vx → Encloses s xc vc
    → reactance_ends s x xc order ≡ Some a → Encloses s a (reactance vx vc h)
unfolding reactance
reactance_encloses s x xc order a h vx vc ho hx hc e =
    let (inductive, e1, n1) = bind-some _ _ a e in
    let (capacitive, e2, e3) = bind-some _ _ a n1 in
    sub_encloses s inductive capacitive _ _ (mul_encloses s order x _ vx ho hx inductive e1) (quotient_encloses s xc order capacitive vc _ hc ho e2) a e3

-- ---- impedance and admittance
-- x + jy by its parts
pub plus_j_encloses : (s : ℕ) (a b : Ends) (x y : Ratio) → Encloses s a x → Encloses s b y → EnclosesComplex s (record { re = a; im = b }) (x +j y)
plus_j_encloses s a b x y p q = record {
  re = holds_along _ _ s _ _ (ratio_ring.back (re-plus_j x y)) p;
  im = holds_along _ _ s _ _ (ratio_ring.back (im-plus_j x y)) q;
}

pub one_rectangle_encloses : (s : ℕ) → EnclosesComplex s (one_rectangle s) (complex_whole (pos 1))
one_rectangle_encloses s = record {
  re = holds_along _ _ s _ _ (ratio_ring.back (re-complex_whole (pos 1))) (one_encloses s);
  im = holds_along _ _ s _ _ (ratio_ring.back (im-complex_whole (pos 1))) (zero_encloses s);
}

-- zero alone holds 0
pub nought_held : (s : ℕ) → EnclosesComplex s nought_rectangle complex_numbers.nought
nought_held s = record {
  re = holds_along _ _ s _ _ (ratio_ring.back (re-complex_whole (pos 0))) (zero_encloses s);
  im = holds_along _ _ s _ _ (ratio_ring.back (im-complex_whole (pos 0))) (zero_encloses s);
}

module _ (s : ℕ) (p : SeriesEnds) (order : Ends) (b : Rectangle) (h : Order) (r k m x xc : Ratio) (ho : Encloses s order (fraction h)) (held : HoldsSeries s p r k m x xc) (e : series_admittance_rectangle s p order ≡ Some b) where
  -- the impedance is held, and its quotient has a value
  impedance_held : (z : Rectangle) × EnclosesComplex s z (series_impedance r k m x xc h) × (div_rectangles s (one_rectangle s) z ≡ Some b)
  unfolding series_impedance
  impedance_held =
      let (re, e1, n1) = bind-some _ _ b e in
      let (im, e2, e3) = bind-some _ _ b n1 in
      let h_re = resistance_encloses s p.plain p.r p.k p.m order re h r k m ho held.r_held held.k_held held.m_held held.k_is_nought e1 in
      let h_im = reactance_encloses s p.x p.xc order im h x xc ho held.x_held held.xc_held e2 in
      (record { re = re; im = im }, plus_j_encloses s re im _ _ h_re h_im, e3)

  -- the impedance is not zero
  pub impedance_apart : ¬ (series_impedance r k m x xc h ≅ complex_whole (pos 0))
  impedance_apart = let (z, hz, d) = impedance_held in divisor_apart s (one_rectangle s) z b _ hz d

  -- its inverse is held, and there is one
  pub inverse_encloses : (y : Complex) → IsAdmittance h (Series r k m x xc) y → EnclosesComplex s b y
  inverse_encloses y i =
      let (z, hz, d) = impedance_held in
      div_encloses_rectangle s (one_rectangle s) z b (complex_whole (pos 1)) _ y (one_rectangle_encloses s) hz (complex_field.next (complex_field.mul_comm y (series_impedance r k m x xc h)) i) d

  pub series_encloses : (y : Complex) × IsAdmittance h (Series r k m x xc) y × EnclosesComplex s b y
  series_encloses =
      let z = series_impedance r k m x xc h in
      let i = complex_field.mul_inverse z impedance_apart in
      (complex_reciprocal z, i, inverse_encloses (complex_reciprocal z) i)

pub shunt_encloses : (s : ℕ) (b order : Ends) (a : Rectangle) (h : Order) (x : Ratio) → Encloses s order (fraction h) → Encloses s b x → shunt_admittance_rectangle s b order ≡ Some a → EnclosesComplex s a (shunt_admittance x h)
unfolding shunt_admittance
shunt_encloses s b order a h x ho hb e =
    let (im, e1, e2) = bind-some _ _ a e in
    let P : Rectangle → Type 0 = λ t. EnclosesComplex s t (shunt_admittance x h) in
    let same : record { re = zero_ends; im = im } ≡ a = cc in
    subst P same (plus_j_encloses s zero_ends im _ _ (zero_encloses s) (mul_encloses s order b _ x ho hb im e1))

-- ---- the same of a value that there may be
pub resistance_holds : (s : ℕ) (plain : Bool) (r k m order : Ends) (o : Option Ends) → o ≡ resistance_ends s plain r k m order → HoldsResistance s plain r k m order o
resistance_holds s plain r k m order o v h i ho vr vk vm hr hk hm n = if_some o _ (λ a e. resistance_encloses s plain r k m order a h vr vk vm ho hr hk hm n (sym v ∙ e))

pub series_holds : (s : ℕ) (p : SeriesEnds) (order : Ends) (o : Option Rectangle) → o ≡ series_admittance_rectangle s p order → HoldsSeriesAdmittance s p order o
series_holds s p order o v h i ho r k m x xc held = if_some o _ (λ b e. series_encloses s p order b h r k m x xc ho held (sym v ∙ e))

pub shunt_holds : (s : ℕ) (b order : Ends) (o : Option Rectangle) → o ≡ shunt_admittance_rectangle s b order → HoldsShuntAdmittance s b order o
shunt_holds s b order o v h i ho x hb = if_some o _ (λ a e. shunt_encloses s b order a h x ho hb (sym v ∙ e))
