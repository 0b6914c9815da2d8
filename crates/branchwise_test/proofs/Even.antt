-- Groups of three with equal mutual reactances, whose values are the same in both networks of a pair.
use Rattle.std.proofs.Common.{◌≡◌, ◌∙◌, ℕ, zero, suc, Bool, true, false, List, [], ◌∷◌, ◌++◌, ◌⊎◌, inl, inr, length, refl, sym, subst, ap, arith, pos, ℤ, Option}
use Rattle.std.proofs.lemmas.Int.{ints}
use Rattle.std.specs.Ordering.{int_eq}
use Rattle.std.specs.Prelude.{Some, None, IsTrue, ◌*ℤ◌, ◌≤ℤ◌, ◌&&◌, if◌then◌else◌}
use Rattle.std.specs.List.{AllZip, AllByRecursion}
use Rattle.std.specs.Option.{option_map}
use Rattle.exact_algebra.specs.Ratio.{Ratio, den, ◌≈◌ as ◌≈ᵣ◌, ◌≼◌, ratio_numbers, whole, times, plus, opposite, difference, reciprocal}
use Rattle.exact_algebra.specs.Complex.{Complex, complex_numbers}
use Rattle.exact_algebra.proofs.Complexes.{complex_field}
use Rattle.exact_algebra.proofs.Holding.{holds_along}
use Rattle.exact_algebra.proofs.Ratios.{ratio_ring, ratio_field, times_reciprocal}
use Rattle.exact_algebra.proofs.Reader.{reads, ring, linear, weigh, join, none_left}
use Rattle.exact_algebra.proofs.Reals.{plus_j_same}
use Rattle.linear_systems.specs.Linear.{dot, Solves, Annuls, IsInjective}
use Rattle.complex_interval.specs.Ends.{Ends, Encloses, add_ends, sub_ends, mul_ends, div_ends, square_ends}
use Rattle.complex_interval.specs.Rectangles.{Rectangle, EnclosesComplex}
use Rattle.complex_interval.proofs.Held.{add_encloses, sub_encloses, square_encloses}
use Rattle.complex_interval.proofs.RectangleLaws.{div_side, apart_of}
use Rattle.network_theory.specs.Order.{Order, fraction}
use Rattle.network_theory.specs.Branch.{Tap, Law, Series, Shunt, Coupled3, Coupling, SameCoupling, Branch}
use Rattle.network_theory.specs.Between.{LawUpTo, CouplingUpTo}
use Rattle.network_theory.specs.Impedance.{resistance, group_entry, group_row}
use Rattle.network_theory.specs.Admittance.{IsAdmittance, IsGroupAdmittance, group_rows}
use Rattle.network_theory.proofs.More.{up_to}
use Rattle.network_theory.proofs.OneBus.{resistance_plain}
use Rattle.admittance_box.specs.Addends.{LawEnds, OfSeries, law_between}
use Rattle.admittance_box.specs.Admittance.{SeriesEnds, skin_ends, resistance_ends, series_admittance_rectangle}
use Rattle.admittance_box.specs.BoxMatrix.{law_rectangle}
use Rattle.admittance_box.specs.Exact.{one_ends}
use Rattle.admittance_box.specs.Held.{HoldsSeries}
use Rattle.admittance_box.specs.Series.{series_between}
use Rattle.admittance_box.specs.Steps.{◌>>=◌}
use Rattle.admittance_box.proofs.Between.{series_held}
use Rattle.admittance_box.proofs.Steps.{bind-some}
use Rattle.branchwise_laws.specs.Pairs.{IsEven, apart_law}
use Rattle.branchwise_laws.proofs.AtMost.{le_along, le_next, gap_of}
use Rattle.branchwise_test.specs.Drops.{is_same, are_same, is_even, even_between}
open complex_numbers use {◌≈◌, nought, unit, ◌⊕◌, ◌⊗◌}
open complex_field use {same, back, next, add_same, mul_same}

-- ---- equal values
both_true : (a b : Bool) → (a && b) ≡ true → (a ≡ true) × (b ≡ true)
both_true true b e = (refl, e)
both_true false b e = absurd cc

equal_numbers : (a b : ℤ) → int_eq a b ≡ true → a ≡ b
equal_numbers a b e = grind (arith, ints)

same_of : (x y : Ratio) → is_same x y ≡ true → x ≈ᵣ y
unfolding den
same_of x y e = record { cross = equal_numbers _ _ e }

even_of : (c : Coupling) → is_even c ≡ true → IsEven c
even_of c e = let (bc, ca) = both_true _ _ e in record { bc = same_of _ _ bc; ca = same_of _ _ ca }

coupling_of : (c d : Coupling) → are_same c d ≡ true → SameCoupling c d
coupling_of c d e =
    let (t, m) = both_true _ _ e in
    let (t, k) = both_true _ _ t in
    let (t, ca) = both_true _ _ t in
    let (t, bc) = both_true _ _ t in
    let (t, ab) = both_true _ _ t in
    let (t, mr) = both_true _ _ t in
    let (r, x) = both_true _ _ t in
    record {
      self_r = same_of _ _ r;
      self_x = same_of _ _ x;
      mutual_r = same_of _ _ mr;
      x_ab = same_of _ _ ab;
      x_bc = same_of _ _ bc;
      x_ca = same_of _ _ ca;
      k = same_of _ _ k;
      m = same_of _ _ m;
    }

-- what lies between two equal values is equal
turned : (a b : Ratio) → a ≼ b → b ≼ a → a ≈ᵣ b
turned a b p q = record { cross = both_ways _ _ p.cross q.cross }
  where
    both_ways : (m n : ℤ) → m ≤ℤ n → n ≤ℤ m → m ≡ n
    both_ways m n p q = omega (arith, ints, p, q)

squeezed : {x y z : Ratio} → x ≼ y → y ≼ z → x ≈ᵣ z → y ≈ᵣ x
squeezed {x} {y} {z} p q e = turned y x (le_along (ratio_field.same y) (ratio_field.back e) q) p

-- so the values of a group between two
between_same : (c d v : Coupling) → SameCoupling c d → CouplingUpTo c v → CouplingUpTo v d → SameCoupling v c
between_same c d v e p q = record {
  self_r = squeezed p.self_r q.self_r e.self_r;
  self_x = squeezed p.self_x q.self_x e.self_x;
  mutual_r = squeezed p.mutual_r q.mutual_r e.mutual_r;
  x_ab = squeezed p.x_ab q.x_ab e.x_ab;
  x_bc = squeezed p.x_bc q.x_bc e.x_bc;
  x_ca = squeezed p.x_ca q.x_ca e.x_ca;
  k = squeezed p.k q.k e.k;
  m = squeezed p.m q.m e.m;
}

pub even_values : (l u v : Law) (place : ℕ) (c values : Coupling) → LawUpTo l v → LawUpTo v u → v ≡ Coupled3 place values → even_between l u ≡ Some c → IsEven c × SameCoupling values c
even_values l u v place c values a b is e = go l u (subst (λ w. LawUpTo l w) is a) (subst (λ w. LawUpTo w u) is b) e
  where
    go : (l u : Law) → LawUpTo l (Coupled3 place values) → LawUpTo (Coupled3 place values) u → even_between l u ≡ Some c → IsEven c × SameCoupling values c
    go (Series r k m x xc) u a b e = absurd a
    go (Shunt y) u a b e = absurd a
    go (Coupled3 q d) (Series r k m x xc) a b e = absurd b
    go (Coupled3 q d) (Shunt y) a b e = absurd b
    go (Coupled3 q d) (Coupled3 q' d') a b e = by (is_even d && are_same d d') refl e
      where
        by : (t : Bool) → (is_even d && are_same d d') ≡ t → (if t then Some d else None) ≡ Some c → IsEven c × SameCoupling values c
        by true k m =
            let (even, same) = both_true (is_even d) (are_same d d') k in
            let is : d ≡ c = cc in
            subst (λ f. IsEven f × SameCoupling values f) is (even_of d even, between_same d d' values (coupling_of d d' same) a.1 b.1)
        by false k m = absurd cc

-- ---- equal resistances
-- the resistance of equal values is equal: k is 0, or m + h² isn't
abbrev pub HasResistance : Ratio → Ratio → Order → Type 0
HasResistance k m h = (k ≈ᵣ whole (pos 0)) ⊎ (¬ (plus m (times (fraction h) (fraction h)) ≈ᵣ whole (pos 0)))

skin_known : (s : ℕ) (r k m order a : Ends) (h : Order) (vk vm : Ratio) → Encloses s order (fraction h) → Encloses s m vm → skin_ends s r k m order ≡ Some a → HasResistance vk vm h
skin_known s r k m order a h vk vm ho hm e =
    let last = λ (raised falling : Ends). sub_ends raised falling >>= (λ factor. mul_ends s r factor) in
    let (raised, e1, n1) = bind-some (add_ends (one_ends s) k) (λ raised. mul_ends s k m >>= (λ top. square_ends s order >>= (λ square. add_ends m square >>= (λ bottom. div_ends s top bottom >>= last raised)))) a e in
    let (top, e2, n2) = bind-some (mul_ends s k m) (λ top. square_ends s order >>= (λ square. add_ends m square >>= (λ bottom. div_ends s top bottom >>= last raised))) a n1 in
    let (square, e3, n3) = bind-some (square_ends s order) (λ square. add_ends m square >>= (λ bottom. div_ends s top bottom >>= last raised)) a n2 in
    let (bottom, e4, n4) = bind-some (add_ends m square) (λ bottom. div_ends s top bottom >>= last raised) a n3 in
    let (falling, e5, n5) = bind-some (div_ends s top bottom) (last raised) a n4 in
    let h_square = square_encloses s order (fraction h) ho square e3 in
    let h_bottom = add_encloses s m square vm _ hm h_square bottom e4 in
    inr (apart_of s bottom _ (div_side s top bottom falling e5) h_bottom)

ends_known : (s : ℕ) (plain : Bool) (r k m order a : Ends) (h : Order) (vk vm : Ratio) → Encloses s order (fraction h) → Encloses s m vm → (IsTrue plain → vk ≈ᵣ whole (pos 0)) → resistance_ends s plain r k m order ≡ Some a → HasResistance vk vm h
ends_known s true r k m order a h vk vm ho hm n e = inl (n refl)
ends_known s false r k m order a h vk vm ho hm n e = skin_known s r k m order a h vk vm ho hm e

pub resistance_known : (s : ℕ) (r k m x xc : Ratio) (law : LawEnds) (order : Ends) (b : Rectangle) (h : Order) → Encloses s order (fraction h) → law_between s (Series r k m x xc) (Series r k m x xc) ≡ Some law
    → law_rectangle s order law ≡ Some b → HasResistance k m h
resistance_known s r k m x xc law order b h ho e g =
    let (p, e1, e2) = map-some (series_between s r k m x xc r k m x xc) e in
    let held = series_held s r k m x xc r k m x xc p e1 r k m x xc (up_to r) (up_to r) (up_to k) (up_to k) (up_to m) (up_to m) (up_to x) (up_to x) (up_to xc) (up_to xc) in
    let (re, e3, n3) = bind-some _ _ b (subst (λ l. law_rectangle s order l ≡ Some b) e2 g) in
    ends_known s p.plain p.r p.k p.m order re h k m ho held.m_held held.k_is_nought e3
  where
    map-some : (o : Option SeriesEnds) → option_map OfSeries o ≡ Some law → (t : SeriesEnds) × (o ≡ Some t) × (law ≡ OfSeries t)
    map-some (Some t) f = (t, refl, cc)
    map-some None f = absurd cc

resistance_same : (r k m r' k' m' : Ratio) (h : Order) → HasResistance k' m' h → r ≈ᵣ r' → k ≈ᵣ k' → m ≈ᵣ m' → resistance r k m h ≈ᵣ resistance r' k' m' h
unfolding resistance
resistance_same r k m r' k' m' h (inl z) er ek em =
    ratio_field.next (resistance_plain r k m h (ratio_field.next ek z)) (ratio_field.next er (ratio_field.back (resistance_plain r' k' m' h z)))
resistance_same r k m r' k' m' h (inr z) er ek em = by
  where
    square : Ratio
    square = times (fraction h) (fraction h)

    bottom : plus m square ≈ᵣ plus m' square
    bottom = ratio_field.add_same em (ratio_field.same square)

    inverse_same : (d d' i i' : Ratio) → d ≈ᵣ d' → times d i ≈ᵣ whole (pos 1) → times d' i' ≈ᵣ whole (pos 1) → i ≈ᵣ i'
    inverse_same d d' i i' e p q =
        linear ratio_ring (d ∷ d' ∷ i ∷ i' ∷ []) (join ratio_ring (weigh ratio_ring i' p) (join ratio_ring (weigh ratio_ring (opposite i) q) (weigh ratio_ring (opposite (times i i')) e))) (search reads depth 40 fits 4000) none_left

    inverse : reciprocal (plus m square) ≈ᵣ reciprocal (plus m' square)
    inverse = inverse_same _ _ _ _ bottom (times_reciprocal (plus m square) (λ k. z (ratio_field.next (ratio_field.back bottom) k))) (times_reciprocal (plus m' square) z)

    by : resistance r k m h ≈ᵣ resistance r' k' m' h
    by =
        ratio_field.mul_same er (ratio_field.add_same (ratio_field.add_same (ratio_field.same _) ek) (ratio_field.minus_same (ratio_field.mul_same (ratio_field.mul_same ek em) inverse)))

-- ---- equal impedances
module _ (h : Order) (c : Coupling) (known : HasResistance c.k c.m h) where
  entry_same : (a : Coupling) → SameCoupling a c → (r x r' x' : Ratio) → r ≈ᵣ r' → x ≈ᵣ x' → group_entry a h r x ≈ group_entry c h r' x'
  unfolding group_entry
  entry_same a e r x r' x' er ex = plus_j_same (resistance_same r a.k a.m r' c.k c.m h known er e.k e.m) (ratio_field.mul_same (ratio_field.same _) ex)

  row_dot : (us vs xs : List Complex) → AllZip ◌≈◌ us vs → dot complex_numbers us xs ≈ dot complex_numbers vs xs
  row_dot [] [] xs z = same _
  row_dot [] (v ∷ vs) xs z = absurd z
  row_dot (u ∷ us) [] xs z = absurd z
  row_dot (u ∷ us) (v ∷ vs) [] z = same _
  row_dot (u ∷ us) (v ∷ vs) (x ∷ xs) z = add_same (mul_same z.0 (same x)) (row_dot us vs xs z.1)

  row_same : (a : Coupling) → SameCoupling a c → (p : ℕ) → AllZip ◌≈◌ (group_row a h p) (group_row c h p)
  row_same a e zero = (entry_same a e _ _ _ _ e.self_r e.self_x, (entry_same a e _ _ _ _ e.mutual_r e.x_ab, (entry_same a e _ _ _ _ e.mutual_r e.x_ca, tt)))
  row_same a e (suc zero) = (entry_same a e _ _ _ _ e.mutual_r e.x_ab, (entry_same a e _ _ _ _ e.self_r e.self_x, (entry_same a e _ _ _ _ e.mutual_r e.x_bc, tt)))
  row_same a e (suc (suc p)) = (entry_same a e _ _ _ _ e.mutual_r e.x_ca, (entry_same a e _ _ _ _ e.mutual_r e.x_bc, (entry_same a e _ _ _ _ e.self_r e.self_x, tt)))

  pub same_admitted : (a b d : Coupling) (Y : ℕ → ℕ → Complex) → SameCoupling a c → SameCoupling b c → SameCoupling d c → IsGroupAdmittance h c c c Y → IsGroupAdmittance h a b d Y
  same_admitted a b d Y ea eb ed g = record {
    first = solves (Y 0 0 ∷ Y 1 0 ∷ Y 2 0 ∷ []) (unit ∷ nought ∷ nought ∷ []) g.first;
    second = solves (Y 0 1 ∷ Y 1 1 ∷ Y 2 1 ∷ []) (nought ∷ unit ∷ nought ∷ []) g.second;
    third = solves (Y 0 2 ∷ Y 1 2 ∷ Y 2 2 ∷ []) (nought ∷ nought ∷ unit ∷ []) g.third;
    only = record { only = λ x l n. g.only.only x l (next (back (at a ea 0 x)) n.0, (next (back (at b eb 1 x)) n.1.0, (next (back (at d ed 2 x)) n.1.1.0, tt))) };
  }
    where
      at : (v : Coupling) → SameCoupling v c → (p : ℕ) (x : List Complex) → dot complex_numbers (group_row v h p) x ≈ dot complex_numbers (group_row c h p) x
      at v e p x = row_dot (group_row v h p) (group_row c h p) x (row_same v e p)

      solves : (x right : List Complex) → Solves complex_numbers (group_rows c c c h) x right → Solves complex_numbers (group_rows a b d h) x right
      solves x [] z = absurd z
      solves x (p ∷ []) z = absurd z.1
      solves x (p ∷ q ∷ []) z = absurd z.1.1
      solves x (p ∷ q ∷ r ∷ []) z = (next (at a ea 0 x) z.0, (next (at b eb 1 x) z.1.0, (next (at d ed 2 x) z.1.1.0, tt)))
      solves x (p ∷ q ∷ r ∷ t ∷ right) z = absurd z.1.1.1
