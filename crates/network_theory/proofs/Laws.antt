-- Where a part has its admittances, its laws say that its currents are those of its admittances and drops.
use Rattle.std.proofs.Common.{◌≡◌, ℕ, ◌+◌, ◌-◌, List, [], ◌∷◌, ap, refl, subst, sym, arith}
use Rattle.exact_algebra.specs.Complex.{Complex, complex_numbers}
use Rattle.exact_algebra.proofs.Complexes.{complex_field}
use Rattle.exact_algebra.proofs.Reader.{reads, ring, linear, weigh, join, none_left}
use Rattle.linear_systems.specs.Linear.{dot}
use Rattle.linear_systems.proofs.Complement as D
use Rattle.network_theory.specs.Order.{Order}
use Rattle.network_theory.specs.Branch.{Law, Series, Shunt, Coupled3, Coupling}
use Rattle.network_theory.specs.Impedance.{series_impedance, shunt_admittance, group_row}
use Rattle.network_theory.specs.State.{KeepsLaw}
use Rattle.network_theory.specs.Admittance.{IsAdmittance, IsGroupAdmittance}
use Rattle.network_theory.proofs.Numbers.{R}
use Rattle.network_theory.specs.Current.{by_row}
open complex_numbers use {◌≈◌, nought, unit, ◌⊕◌, ◌⊗◌, minus}
open complex_field use {same, back, next, add_same, mul_same, minus_same}

abbrev C : Type 0
C = Complex

-- a law with its admittance: its current is the admittance times the drop
pub law-current : (l : Law) (h : Order) (y : C) (I : ℕ → C) (i : ℕ) (d : C) → IsAdmittance h l y → KeepsLaw l h I i d → I i ≈ y ⊗ d
law-current (Series r k m x xc) h y I i d a l =
    let Z = series_impedance r k m x xc h in
    linear R (Z ∷ y ∷ I i ∷ d ∷ []) (join R (weigh R y l) (weigh R (minus (I i)) a)) (search reads depth 40 fits 4000) none_left
law-current (Shunt b) h y I i d a l =
    let s = shunt_admittance b h in
    linear R (s ∷ y ∷ I i ∷ d ∷ []) (join R (weigh R unit l) (weigh R (minus d) a)) (search reads depth 40 fits 4000) none_left
law-current (Coupled3 place c) h y I i d a l = absurd a

pub current-law : (l : Law) (h : Order) (y : C) (I : ℕ → C) (i : ℕ) (d : C) → IsAdmittance h l y → I i ≈ y ⊗ d → KeepsLaw l h I i d
current-law (Series r k m x xc) h y I i d a l =
    let Z = series_impedance r k m x xc h in
    linear R (Z ∷ y ∷ I i ∷ d ∷ []) (join R (weigh R Z l) (weigh R d a)) (search reads depth 40 fits 4000) none_left
current-law (Shunt b) h y I i d a l =
    let s = shunt_admittance b h in
    linear R (s ∷ y ∷ I i ∷ d ∷ []) (join R (weigh R unit l) (weigh R d a)) (search reads depth 40 fits 4000) none_left
current-law (Coupled3 place c) h y I i d a l = absurd a

-- a row of a group's Z, at the currents that its admittances give: one equation
given_row : (z1 z2 z3 : C) (Y : ℕ → ℕ → C) (d1 d2 d3 e1 e2 e3 : C)
    → z1 ⊗ Y 0 0 ⊕ (z2 ⊗ Y 1 0 ⊕ (z3 ⊗ Y 2 0 ⊕ nought)) ≈ e1
    → z1 ⊗ Y 0 1 ⊕ (z2 ⊗ Y 1 1 ⊕ (z3 ⊗ Y 2 1 ⊕ nought)) ≈ e2
    → z1 ⊗ Y 0 2 ⊕ (z2 ⊗ Y 1 2 ⊕ (z3 ⊗ Y 2 2 ⊕ nought)) ≈ e3
    → z1 ⊗ by_row (Y 0 0) (Y 0 1) (Y 0 2) d1 d2 d3 ⊕ (z2 ⊗ by_row (Y 1 0) (Y 1 1) (Y 1 2) d1 d2 d3 ⊕ (z3 ⊗ by_row (Y 2 0) (Y 2 1) (Y 2 2) d1 d2 d3 ⊕ nought)) ≈ by_row e1 e2 e3 d1 d2 d3
given_row z1 z2 z3 Y d1 d2 d3 e1 e2 e3 h1 h2 h3 =
    next (turn z1 z2 z3 (Y 0 0) (Y 0 1) (Y 0 2) (Y 1 0) (Y 1 1) (Y 1 2) (Y 2 0) (Y 2 1) (Y 2 2) d1 d2 d3)
    (add_same (mul_same h1 (same d1)) (add_same (mul_same h2 (same d2)) (mul_same h3 (same d3))))
  where
    turn : (z1 z2 z3 a b c d e f g h i u v w : C)
        → z1 ⊗ by_row a b c u v w ⊕ (z2 ⊗ by_row d e f u v w ⊕ (z3 ⊗ by_row g h i u v w ⊕ nought))
        ≈ by_row (z1 ⊗ a ⊕ (z2 ⊗ d ⊕ (z3 ⊗ g ⊕ nought))) (z1 ⊗ b ⊕ (z2 ⊗ e ⊕ (z3 ⊗ h ⊕ nought))) (z1 ⊗ c ⊕ (z2 ⊗ f ⊕ (z3 ⊗ i ⊕ nought))) u v w
    turn z1 z2 z3 a b c d e f g h i u v w =
        ring R (z1 ∷ z2 ∷ z3 ∷ a ∷ b ∷ c ∷ d ∷ e ∷ f ∷ g ∷ h ∷ i ∷ u ∷ v ∷ w ∷ []) (search reads depth 60 fits 20000) none_left

-- what the admittances of a group give at drops
pub record GroupCurrents (Y : ℕ → ℕ → C) (I : ℕ → C) (o : ℕ) (d1 d2 d3 : C) : Type 0 where
  pub first : I o ≈ by_row (Y 0 0) (Y 0 1) (Y 0 2) d1 d2 d3
  pub second : I (o + 1) ≈ by_row (Y 1 0) (Y 1 1) (Y 1 2) d1 d2 d3
  pub third : I (o + 2) ≈ by_row (Y 2 0) (Y 2 1) (Y 2 2) d1 d2 d3

-- the three laws of a group whose first branch is at place o
pub record GroupLaws (c1 c2 c3 : Coupling) (h : Order) (I : ℕ → C) (o : ℕ) (d1 d2 d3 : C) : Type 0 where
  pub first : KeepsLaw (Coupled3 0 c1) h I o d1
  pub second : KeepsLaw (Coupled3 1 c2) h I (o + 1) d2
  pub third : KeepsLaw (Coupled3 2 c3) h I (o + 2) d3

-- the three laws with the group's currents by their places
back_one : (I : ℕ → C) (o : ℕ) → (I (o + 1 - 1) ≡ I o) × (I (o + 1 - 1 + 1) ≡ I (o + 1)) × (I (o + 1 - 1 + 2) ≡ I (o + 2))
back_one I o = (ap I (omega arith), ap I (omega arith), ap I (omega arith))

back_two : (I : ℕ → C) (o : ℕ) → (I (o + 2 - 2) ≡ I o) × (I (o + 2 - 2 + 1) ≡ I (o + 1)) × (I (o + 2 - 2 + 2) ≡ I (o + 2))
back_two I o = (ap I (omega arith), ap I (omega arith), ap I (omega arith))

back_none : (I : ℕ → C) (o : ℕ) → (I (o - 0) ≡ I o) × (I (o - 0 + 1) ≡ I (o + 1)) × (I (o - 0 + 2) ≡ I (o + 2))
back_none I o = (ap I (omega arith), ap I (omega arith), ap I (omega arith))

-- the value of a row of Z at three numbers
abbrev row_value : List C → C → C → C → C
row_value row u v w = dot complex_numbers row (u ∷ v ∷ w ∷ [])

row-along : (row : List C) {u v w u' v' w' : C} → u ≡ u' → v ≡ v' → w ≡ w' → row_value row u v w ≡ row_value row u' v' w'
row-along row p q r = λ i. row_value row (p i) (q i) (r i)

-- Z·I = d, from the laws, and back
pub record GroupRows (c1 c2 c3 : Coupling) (h : Order) (u v w d1 d2 d3 : C) : Type 0 where
  pub first : row_value (group_row c1 h 0) u v w ≈ d1
  pub second : row_value (group_row c2 h 1) u v w ≈ d2
  pub third : row_value (group_row c3 h 2) u v w ≈ d3

pub laws-rows : (c1 c2 c3 : Coupling) (h : Order) (I : ℕ → C) (o : ℕ) (d1 d2 d3 : C) → GroupLaws c1 c2 c3 h I o d1 d2 d3 → GroupRows c1 c2 c3 h (I o) (I (o + 1)) (I (o + 2)) d1 d2 d3
laws-rows c1 c2 c3 h I o d1 d2 d3 l =
    let p = back_none I o in let q = back_one I o in let r = back_two I o in
    record {
      first = subst (λ z. z ≈ d1) (row-along (group_row c1 h 0) p.0 p.1 p.2) l.first;
      second = subst (λ z. z ≈ d2) (row-along (group_row c2 h 1) q.0 q.1 q.2) l.second;
      third = subst (λ z. z ≈ d3) (row-along (group_row c3 h 2) r.0 r.1 r.2) l.third;
    }

pub rows-laws : (c1 c2 c3 : Coupling) (h : Order) (I : ℕ → C) (o : ℕ) (d1 d2 d3 : C) → GroupRows c1 c2 c3 h (I o) (I (o + 1)) (I (o + 2)) d1 d2 d3 → GroupLaws c1 c2 c3 h I o d1 d2 d3
rows-laws c1 c2 c3 h I o d1 d2 d3 l =
    let p = back_none I o in let q = back_one I o in let r = back_two I o in
    record {
      first = subst (λ z. z ≈ d1) (sym (row-along (group_row c1 h 0) p.0 p.1 p.2)) l.first;
      second = subst (λ z. z ≈ d2) (sym (row-along (group_row c2 h 1) q.0 q.1 q.2)) l.second;
      third = subst (λ z. z ≈ d3) (sym (row-along (group_row c3 h 2) r.0 r.1 r.2)) l.third;
    }

unit_first : (u v w : C) → by_row unit nought nought u v w ≈ u
unit_first u v w = ring R (u ∷ v ∷ w ∷ []) (search reads depth 40 fits 4000) none_left

unit_second : (u v w : C) → by_row nought unit nought u v w ≈ v
unit_second u v w = ring R (u ∷ v ∷ w ∷ []) (search reads depth 40 fits 4000) none_left

unit_third : (u v w : C) → by_row nought nought unit u v w ≈ w
unit_third u v w = ring R (u ∷ v ∷ w ∷ []) (search reads depth 40 fits 4000) none_left

-- the currents of the admittances keep the laws
pub given-rows : (c1 c2 c3 : Coupling) (h : Order) (Y : ℕ → ℕ → C) (d1 d2 d3 : C) → IsGroupAdmittance h c1 c2 c3 Y
    → GroupRows c1 c2 c3 h (by_row (Y 0 0) (Y 0 1) (Y 0 2) d1 d2 d3) (by_row (Y 1 0) (Y 1 1) (Y 1 2) d1 d2 d3) (by_row (Y 2 0) (Y 2 1) (Y 2 2) d1 d2 d3) d1 d2 d3
given-rows c1 c2 c3 h Y d1 d2 d3 a = record {
  first = next (given_row _ _ _ Y d1 d2 d3 unit nought nought a.first.0 a.second.0 a.third.0) (unit_first d1 d2 d3);
  second = next (given_row _ _ _ Y d1 d2 d3 nought unit nought a.first.1.0 a.second.1.0 a.third.1.0) (unit_second d1 d2 d3);
  third = next (given_row _ _ _ Y d1 d2 d3 nought nought unit a.first.1.1.0 a.second.1.1.0 a.third.1.1.0) (unit_third d1 d2 d3);
}

row_less : (z1 z2 z3 u v w u' v' w' d : C) → z1 ⊗ u ⊕ (z2 ⊗ v ⊕ (z3 ⊗ w ⊕ nought)) ≈ d → z1 ⊗ u' ⊕ (z2 ⊗ v' ⊕ (z3 ⊗ w' ⊕ nought)) ≈ d
    → z1 ⊗ (u ⊕ minus u') ⊕ (z2 ⊗ (v ⊕ minus v') ⊕ (z3 ⊗ (w ⊕ minus w') ⊕ nought)) ≈ nought
row_less z1 z2 z3 u v w u' v' w' d p q =
    linear R (z1 ∷ z2 ∷ z3 ∷ u ∷ v ∷ w ∷ u' ∷ v' ∷ w' ∷ d ∷ []) (join R (weigh R unit p) (weigh R (minus unit) q)) (search reads depth 40 fits 8000) none_left

zero_difference : (u v : C) → u ⊕ minus v ≈ nought → u ≈ v
zero_difference u v h = linear R (u ∷ v ∷ []) (weigh R unit h) (search reads depth 40 fits 4000) none_left

-- two triples of currents with the same drops are one
pub rows-only : (c1 c2 c3 : Coupling) (h : Order) (Y : ℕ → ℕ → C) (u v w u' v' w' d1 d2 d3 : C) → IsGroupAdmittance h c1 c2 c3 Y → GroupRows c1 c2 c3 h u v w d1 d2 d3 → GroupRows c1 c2 c3 h u' v' w' d1 d2 d3
    → (u ≈ u') × (v ≈ v') × (w ≈ w')
rows-only c1 c2 c3 h Y u v w u' v' w' d1 d2 d3 a p q =
    let x : List C = (u ⊕ minus u') ∷ (v ⊕ minus v') ∷ (w ⊕ minus w') ∷ [] in
    let z = a.only.only x refl
    (row_less _ _ _ u v w u' v' w' d1 p.first q.first, (row_less _ _ _ u v w u' v' w' d2 p.second q.second, (row_less _ _ _ u v w u' v' w' d3 p.third q.third, tt))) in
    (zero_difference u u' z.0, zero_difference v v' z.1.0, zero_difference w w' z.1.1.0)

pub group-currents : (c1 c2 c3 : Coupling) (h : Order) (Y : ℕ → ℕ → C) (I : ℕ → C) (o : ℕ) (d1 d2 d3 : C) → IsGroupAdmittance h c1 c2 c3 Y → GroupLaws c1 c2 c3 h I o d1 d2 d3 → GroupCurrents Y I o d1 d2 d3
group-currents c1 c2 c3 h Y I o d1 d2 d3 a l =
    let t = rows-only c1 c2 c3 h Y _ _ _ _ _ _ d1 d2 d3 a (laws-rows c1 c2 c3 h I o d1 d2 d3 l) (given-rows c1 c2 c3 h Y d1 d2 d3 a) in
    record { first = t.0; second = t.1; third = t.2 }

pub group-laws : (c1 c2 c3 : Coupling) (h : Order) (Y : ℕ → ℕ → C) (I : ℕ → C) (o : ℕ) (d1 d2 d3 : C) → IsGroupAdmittance h c1 c2 c3 Y → GroupCurrents Y I o d1 d2 d3 → GroupLaws c1 c2 c3 h I o d1 d2 d3
group-laws c1 c2 c3 h Y I o d1 d2 d3 a g =
    let k = given-rows c1 c2 c3 h Y d1 d2 d3 a in
    rows-laws c1 c2 c3 h I o d1 d2 d3 (record {
      first = next (row-near (group_row c1 h 0) g.first g.second g.third) k.first;
      second = next (row-near (group_row c2 h 1) g.first g.second g.third) k.second;
      third = next (row-near (group_row c3 h 2) g.first g.second g.third) k.third;
    })
  where
    row-near : (row : List C) {u v w u' v' w' : C} → u ≈ u' → v ≈ v' → w ≈ w' → row_value row u v w ≈ row_value row u' v' w'
    row-near row p q r = D.dot_same complex_numbers complex_field row _ _ (p, (q, (r, tt)))
