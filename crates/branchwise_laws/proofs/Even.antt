-- A group whose mutual reactances are equal: its nine admittances by two.
use Rattle.std.proofs.Common.{◌≡◌, ℕ, pos, List, [], ◌∷◌, ◌++◌, length, refl, arith}
use Rattle.std.specs.Prelude.{◌==◌, if◌then◌else◌}
use Rattle.exact_algebra.specs.Ratio.{Ratio, ◌≈◌ as ◌≈ᵣ◌, ratio_numbers, whole, times, plus, opposite, difference, den, common}
use Rattle.exact_algebra.specs.Complex.{Complex, complex_numbers, complex_over, complex_times, complex_plus, complex_whole, real, real_part, imaginary_part}
use Rattle.exact_algebra.proofs.Complexes.{complex_field, re-complex_plus, im-complex_plus, re-complex_difference, im-complex_difference}
use Rattle.exact_algebra.proofs.Ratios.{ratio_ring, ratio_field}
use Rattle.exact_algebra.proofs.Reader.{reads, ring, linear, weigh, join, none_left}
use Rattle.exact_algebra.proofs.Reals.{re-plus_j, im-plus_j, plus_j_same, re-real, im-real}
use Rattle.network_theory.specs.Order.{Order, fraction}
use Rattle.network_theory.specs.Branch.{Tap, Branch, Coupling}
use Rattle.network_theory.specs.Impedance.{resistance, reactance, series_impedance, group_entry}
use Rattle.linear_systems.specs.Linear.{Annuls, IsZeroList}
use Rattle.network_theory.specs.Admittance.{IsAdmittance, IsGroupAdmittance, Group, group_rows}
use Rattle.network_theory.specs.Nodal.{pair_entry, part_entry}
use Rattle.network_theory.proofs.Numbers.{R}
use Rattle.network_theory.proofs.Sums.{ratio_at}
use Rattle.network_theory.proofs.Carried.{pair_entry-is}
use Rattle.branchwise_laws.specs.Pairs.{opposed, IsEven, apart_law, common_law}
use Rattle.branchwise_laws.proofs.Bounds.{re-opposite, im-opposite}
open complex_numbers use {◌≈◌, nought, unit, ◌⊕◌, ◌⊗◌, minus}
open complex_field use {same, back, next, add_same, mul_same}

abbrev C : Type 0
C = Complex

third : C
third = complex_over (pos 1) (pos 0) 3

third_of : third ⊗ (unit ⊕ (unit ⊕ unit)) ≈ unit
unfolding third complex_times complex_plus complex_whole real_part imaginary_part den
third_of = record { re = record { cross = refl }; im = record { cross = refl } }

no_third : (x : C) → x ⊕ (x ⊕ x) ≈ nought → x ≈ nought
no_third x h = linear R (x ∷ third ∷ []) (join R (weigh R third h) (weigh R (minus x) third_of)) (search reads depth 40 fits 4000) none_left

-- a column of the inverse, by the inverses of three times the differences and the sum
record Column (a b c y1 y0 : C) : Type 0 where
  self : a ≈ y1 ⊕ y1 ⊕ y0
  next_one : b ≈ y0 ⊕ minus y1
  last_one : c ≈ y0 ⊕ minus y1

thrice_zero : (x y : C) → (x ⊕ minus y) ⊕ ((x ⊕ minus y) ⊕ (x ⊕ minus y)) ≈ nought → x ≈ y
thrice_zero x y h = linear R (x ∷ y ∷ []) (weigh R unit (no_third (x ⊕ minus y) h)) (search reads depth 40 fits 4000) none_left

abbrev thrice : C → C
thrice x = x ⊕ (x ⊕ x)

module _ (s t y1 y0 z1 z0 : C) (d1 : z1 ≈ thrice (s ⊕ minus t)) (d0 : z0 ≈ thrice (s ⊕ (t ⊕ t))) (i1 : z1 ⊗ y1 ≈ unit) (i0 : z0 ⊗ y0 ≈ unit) where
  first_of : (a b c : C) → s ⊗ a ⊕ (t ⊗ b ⊕ (t ⊗ c ⊕ nought)) ≈ unit → t ⊗ a ⊕ (s ⊗ b ⊕ (t ⊗ c ⊕ nought)) ≈ nought → t ⊗ a ⊕ (t ⊗ b ⊕ (s ⊗ c ⊕ nought)) ≈ nought → a ≈ y1 ⊕ y1 ⊕ y0
  first_of a b c e1 e2 e3 =
      let u = a ⊕ a ⊕ minus b ⊕ minus c in
      let v = a ⊕ b ⊕ c in
      thrice_zero a (y1 ⊕ y1 ⊕ y0)
      (linear R (s ∷ t ∷ y1 ∷ y0 ∷ z1 ∷ z0 ∷ a ∷ b ∷ c ∷ [])
      (join R (weigh R (thrice (y1 ⊕ y1 ⊕ y0)) e1) (join R (weigh R (thrice (y0 ⊕ minus y1)) e2) (join R (weigh R (thrice (y0 ⊕ minus y1)) e3)
      (join R (weigh R (minus u) i1) (join R (weigh R (y1 ⊗ u) d1) (join R (weigh R (minus v) i0) (weigh R (y0 ⊗ v) d0)))))))
      (search reads depth 60 fits 20000) none_left)

  other_of : (a b c : C) → s ⊗ a ⊕ (t ⊗ b ⊕ (t ⊗ c ⊕ nought)) ≈ unit → t ⊗ a ⊕ (s ⊗ b ⊕ (t ⊗ c ⊕ nought)) ≈ nought → t ⊗ a ⊕ (t ⊗ b ⊕ (s ⊗ c ⊕ nought)) ≈ nought → b ≈ y0 ⊕ minus y1
  other_of a b c e1 e2 e3 =
      let u = b ⊕ b ⊕ minus a ⊕ minus c in
      let v = a ⊕ b ⊕ c in
      thrice_zero b (y0 ⊕ minus y1)
      (linear R (s ∷ t ∷ y1 ∷ y0 ∷ z1 ∷ z0 ∷ a ∷ b ∷ c ∷ [])
      (join R (weigh R (thrice (y0 ⊕ minus y1)) e1) (join R (weigh R (thrice (y1 ⊕ y1 ⊕ y0)) e2) (join R (weigh R (thrice (y0 ⊕ minus y1)) e3)
      (join R (weigh R (minus u) i1) (join R (weigh R (y1 ⊗ u) d1) (join R (weigh R (minus v) i0) (weigh R (y0 ⊗ v) d0)))))))
      (search reads depth 60 fits 20000) none_left)

  column_of : (a b c : C) → s ⊗ a ⊕ (t ⊗ b ⊕ (t ⊗ c ⊕ nought)) ≈ unit → t ⊗ a ⊕ (s ⊗ b ⊕ (t ⊗ c ⊕ nought)) ≈ nought → t ⊗ a ⊕ (t ⊗ b ⊕ (s ⊗ c ⊕ nought)) ≈ nought → Column a b c y1 y0
  column_of a b c e1 e2 e3 = record {
    self = first_of a b c e1 e2 e3;
    next_one = other_of a b c e1 e2 e3;
    last_one = other_of a c b (turn _ _ _ _ e1) (turn _ _ _ _ e3) (turn _ _ _ _ e2);
  }
    where
      turn : (x y z w : C) → x ⊕ (y ⊕ (z ⊕ nought)) ≈ w → x ⊕ (z ⊕ (y ⊕ nought)) ≈ w
      turn x y z w h = linear R (x ∷ y ∷ z ∷ w ∷ []) (weigh R unit h) (search reads depth 40 fits 4000) none_left

  -- conversely, such columns invert the group's Z
  twice : C → C
  twice x = x ⊕ x

  diagonal_sum : s ⊗ (y1 ⊕ y1 ⊕ y0) ⊕ t ⊗ (y0 ⊕ minus y1) ⊕ t ⊗ (y0 ⊕ minus y1) ≈ unit
  diagonal_sum =
      thrice_zero _ unit
      (linear R (s ∷ t ∷ y1 ∷ y0 ∷ z1 ∷ z0 ∷ [])
      (join R (weigh R (unit ⊕ unit) i1) (join R (weigh R (minus (y1 ⊕ y1)) d1) (join R (weigh R unit i0) (weigh R (minus y0) d0))))
      (search reads depth 60 fits 20000) none_left)

  beside_sum : t ⊗ (y1 ⊕ y1 ⊕ y0) ⊕ s ⊗ (y0 ⊕ minus y1) ⊕ t ⊗ (y0 ⊕ minus y1) ≈ nought
  beside_sum =
      thrice_zero _ nought
      (linear R (s ∷ t ∷ y1 ∷ y0 ∷ z1 ∷ z0 ∷ [])
      (join R (weigh R (minus unit) i1) (join R (weigh R y1 d1) (join R (weigh R unit i0) (weigh R (minus y0) d0))))
      (search reads depth 60 fits 20000) none_left)

  zero_of : (a b c : C) → s ⊗ a ⊕ (t ⊗ b ⊕ (t ⊗ c ⊕ nought)) ≈ nought → t ⊗ a ⊕ (s ⊗ b ⊕ (t ⊗ c ⊕ nought)) ≈ nought → t ⊗ a ⊕ (t ⊗ b ⊕ (s ⊗ c ⊕ nought)) ≈ nought → a ≈ nought
  zero_of a b c e1 e2 e3 =
      let u = a ⊕ a ⊕ minus b ⊕ minus c in
      let v = a ⊕ b ⊕ c in
      no_third a
      (linear R (s ∷ t ∷ y1 ∷ y0 ∷ z1 ∷ z0 ∷ a ∷ b ∷ c ∷ [])
      (join R (weigh R (thrice (y1 ⊕ y1 ⊕ y0)) e1) (join R (weigh R (thrice (y0 ⊕ minus y1)) e2) (join R (weigh R (thrice (y0 ⊕ minus y1)) e3)
      (join R (weigh R (minus u) i1) (join R (weigh R (y1 ⊗ u) d1) (join R (weigh R (minus v) i0) (weigh R (y0 ⊗ v) d0)))))))
      (search reads depth 60 fits 20000) none_left)

three_is : whole (pos 3) ≈ᵣ plus (whole (pos 1)) (plus (whole (pos 1)) (whole (pos 1)))
unfolding whole plus den common
three_is = record { cross = refl }

two_is : whole (pos 2) ≈ᵣ plus (whole (pos 1)) (whole (pos 1))
unfolding whole plus den common
two_is = record { cross = refl }

-- three times a number, by its parts
triple : (Z D : C) (p q : Ratio) → real_part D ≈ᵣ p → imaginary_part D ≈ᵣ q → real_part Z ≈ᵣ times (whole (pos 3)) p → imaginary_part Z ≈ᵣ times (whole (pos 3)) q → Z ≈ thrice D
triple Z D p q e f g k = record {
  re = close (real_part Z) (real_part D) p (real_part (D ⊕ D)) (real_part (thrice D)) e g (re-complex_plus D D) (re-complex_plus D (D ⊕ D));
  im = close (imaginary_part Z) (imaginary_part D) q (imaginary_part (D ⊕ D)) (imaginary_part (thrice D)) f k (im-complex_plus D D) (im-complex_plus D (D ⊕ D));
}
  where
    close : (z d p d2 d3 : Ratio) → d ≈ᵣ p → z ≈ᵣ times (whole (pos 3)) p → d2 ≈ᵣ plus d d → d3 ≈ᵣ plus d d2 → z ≈ᵣ d3
    close z d p d2 d3 e g h k =
        let one = whole (pos 1) in
        let w = whole (pos 3) in
        linear ratio_ring (z ∷ d ∷ p ∷ d2 ∷ d3 ∷ w ∷ [])
        (join ratio_ring (weigh ratio_ring one g) (join ratio_ring (weigh ratio_ring p three_is) (join ratio_ring (weigh ratio_ring (opposite (plus one (plus one one))) e)
        (join ratio_ring (weigh ratio_ring (opposite one) h) (weigh ratio_ring (opposite one) k)))))
        (search reads depth 40 fits 4000) none_left

-- the nine admittances by two
abbrev pub even_matrix : C → C → ℕ → ℕ → C
even_matrix y1 y0 p q = if p == q then y1 ⊕ y1 ⊕ y0 else y0 ⊕ minus y1

-- the entries of a group's Z, and the impedances of the two laws
resistance-is : (r k m : Ratio) (h : Order) → (g : Ratio) × ((r : Ratio) → resistance r k m h ≈ᵣ times r g)
unfolding resistance
resistance-is r k m h = (_, λ r. ratio_field.same _)

module _ (h : Order) (c : Coupling) where
  s : C
  s = group_entry c h c.self_r c.self_x

  t : C
  t = group_entry c h c.mutual_r c.x_ab

  re-entry : (r x : Ratio) → real_part (group_entry c h r x) ≈ᵣ resistance r c.k c.m h
  unfolding group_entry
  re-entry r x = re-plus_j _ _

  im-entry : (r x : Ratio) → imaginary_part (group_entry c h r x) ≈ᵣ times (fraction h) x
  unfolding group_entry
  im-entry r x = im-plus_j _ _

  same_entry : (r x y : Ratio) → x ≈ᵣ y → group_entry c h r x ≈ group_entry c h r y
  unfolding group_entry
  same_entry r x y e = plus_j_same (ratio_field.same _) (ratio_field.mul_same (ratio_field.same _) e)

  re-series : (r x : Ratio) → real_part (series_impedance r c.k c.m x (whole (pos 0)) h) ≈ᵣ resistance r c.k c.m h
  unfolding series_impedance
  re-series r x = re-plus_j _ _

  im-series : (r x : Ratio) → imaginary_part (series_impedance r c.k c.m x (whole (pos 0)) h) ≈ᵣ times (fraction h) x
  unfolding series_impedance reactance
  im-series r x = ratio_field.next (im-plus_j _ _) (ring ratio_ring (fraction h ∷ x ∷ ratio_numbers.inverse (fraction h) ∷ []) (search reads depth 40 fits 4000) none_left)

  apart_impedance : series_impedance (times (whole (pos 3)) (difference c.self_r c.mutual_r)) c.k c.m (times (whole (pos 3)) (difference c.self_x c.x_ab)) (whole (pos 0)) h ≈ thrice (s ⊕ minus t)
  unfolding s t
  apart_impedance =
      let g = (resistance-is c.self_r c.k c.m h).0 in
      let is = (resistance-is c.self_r c.k c.m h).1 in
      triple _ (s ⊕ minus t) (difference (times c.self_r g) (times c.mutual_r g)) (difference (times (fraction h) c.self_x) (times (fraction h) c.x_ab))
      (ratio_field.next (re-complex_difference s t) (ratio_field.add_same (ratio_field.next (re-entry _ _) (is c.self_r)) (ratio_field.minus_same (ratio_field.next (re-entry _ _) (is c.mutual_r)))))
      (ratio_field.next (im-complex_difference s t) (ratio_field.add_same (im-entry _ _) (ratio_field.minus_same (im-entry _ _))))
      (ratio_field.next (re-series _ _) (ratio_field.next (is _) (less (whole (pos 3)) c.self_r c.mutual_r g)))
      (ratio_field.next (im-series _ _) (less_right (whole (pos 3)) c.self_x c.x_ab (fraction h)))
    where
      less : (w a b g : Ratio) → times (times w (difference a b)) g ≈ᵣ times w (difference (times a g) (times b g))
      less w a b g = ring ratio_ring (w ∷ a ∷ b ∷ g ∷ []) (search reads depth 40 fits 4000) none_left

      less_right : (w a b g : Ratio) → times g (times w (difference a b)) ≈ᵣ times w (difference (times g a) (times g b))
      less_right w a b g = ring ratio_ring (w ∷ a ∷ b ∷ g ∷ []) (search reads depth 40 fits 4000) none_left

  common_impedance : series_impedance (times (whole (pos 3)) (plus c.self_r (times (whole (pos 2)) c.mutual_r))) c.k c.m (times (whole (pos 3)) (plus c.self_x (times (whole (pos 2)) c.x_ab))) (whole (pos 0)) h ≈ thrice (s ⊕ (t ⊕ t))
  unfolding s t
  common_impedance =
      let g = (resistance-is c.self_r c.k c.m h).0 in
      let is = (resistance-is c.self_r c.k c.m h).1 in
      triple _ (s ⊕ (t ⊕ t)) (plus (times c.self_r g) (plus (times c.mutual_r g) (times c.mutual_r g))) (plus (times (fraction h) c.self_x) (plus (times (fraction h) c.x_ab) (times (fraction h) c.x_ab)))
      (ratio_field.next (re-complex_plus s (t ⊕ t)) (ratio_field.add_same (ratio_field.next (re-entry _ _) (is c.self_r)) (ratio_field.next (re-complex_plus t t) (ratio_field.add_same (ratio_field.next (re-entry _ _) (is c.mutual_r)) (ratio_field.next (re-entry _ _) (is c.mutual_r))))))
      (ratio_field.next (im-complex_plus s (t ⊕ t)) (ratio_field.add_same (im-entry _ _) (ratio_field.next (im-complex_plus t t) (ratio_field.add_same (im-entry _ _) (im-entry _ _)))))
      (ratio_field.next (re-series _ _) (ratio_field.next (is _) (more (whole (pos 3)) (whole (pos 2)) c.self_r c.mutual_r g two_is)))
      (ratio_field.next (im-series _ _) (more_right (whole (pos 3)) (whole (pos 2)) c.self_x c.x_ab (fraction h) two_is))
    where
      more : (w v a b g : Ratio) → v ≈ᵣ plus (whole (pos 1)) (whole (pos 1)) → times (times w (plus a (times v b))) g ≈ᵣ times w (plus (times a g) (plus (times b g) (times b g)))
      more w v a b g e = linear ratio_ring (w ∷ v ∷ a ∷ b ∷ g ∷ []) (weigh ratio_ring (times w (times b g)) e) (search reads depth 40 fits 4000) none_left

      more_right : (w v a b g : Ratio) → v ≈ᵣ plus (whole (pos 1)) (whole (pos 1)) → times g (times w (plus a (times v b))) ≈ᵣ times w (plus (times g a) (plus (times g b) (times g b)))
      more_right w v a b g e = linear ratio_ring (w ∷ v ∷ a ∷ b ∷ g ∷ []) (weigh ratio_ring (times w (times b g)) e) (search reads depth 40 fits 4000) none_left

  row3 : (p q r p' q' r' a b c e : C) → p ≈ p' → q ≈ q' → r ≈ r' → p ⊗ a ⊕ (q ⊗ b ⊕ (r ⊗ c ⊕ nought)) ≈ e → p' ⊗ a ⊕ (q' ⊗ b ⊕ (r' ⊗ c ⊕ nought)) ≈ e
  row3 p q r p' q' r' a b c e h k l m = next (add_same (mul_same (back h) (same a)) (add_same (mul_same (back k) (same b)) (add_same (mul_same (back l) (same c)) (same nought)))) m

  -- the nine admittances
  record Nine (Y : ℕ → ℕ → C) (y1 y0 : C) : Type 0 where
    first : Column (Y 0 0) (Y 1 0) (Y 2 0) y1 y0
    second : Column (Y 1 1) (Y 0 1) (Y 2 1) y1 y0
    third_one : Column (Y 2 2) (Y 0 2) (Y 1 2) y1 y0

  nine_of : (Y : ℕ → ℕ → C) (y1 y0 : C) → IsGroupAdmittance h c c c Y → IsEven c → IsAdmittance h (apart_law c) y1 → IsAdmittance h (common_law c) y0 → Nine Y y1 y0
  unfolding s t
  nine_of Y y1 y0 g e i1 i0 =
      let bc = same_entry c.mutual_r c.x_bc c.x_ab e.bc in
      let ca = same_entry c.mutual_r c.x_ca c.x_ab e.ca in
      let col = column_of s t y1 y0 _ _ apart_impedance common_impedance i1 i0 in
      record {
        first = col (Y 0 0) (Y 1 0) (Y 2 0)
            (row3 _ _ _ s t t _ _ _ _ (same s) (same t) ca g.first.0) (row3 _ _ _ t s t _ _ _ _ (same t) (same s) bc g.first.1.0) (row3 _ _ _ t t s _ _ _ _ ca bc (same s) g.first.1.1.0);
        second = col (Y 1 1) (Y 0 1) (Y 2 1)
            (swap _ _ _ _ (row3 _ _ _ t s t _ _ _ _ (same t) (same s) bc g.second.1.0)) (swap _ _ _ _ (row3 _ _ _ s t t _ _ _ _ (same s) (same t) ca g.second.0)) (swap _ _ _ _ (row3 _ _ _ t t s _ _ _ _ ca bc (same s) g.second.1.1.0));
        third_one = col (Y 2 2) (Y 0 2) (Y 1 2)
            (front _ _ _ _ (row3 _ _ _ t t s _ _ _ _ ca bc (same s) g.third.1.1.0)) (front _ _ _ _ (row3 _ _ _ s t t _ _ _ _ (same s) (same t) ca g.third.0)) (front _ _ _ _ (row3 _ _ _ t s t _ _ _ _ (same t) (same s) bc g.third.1.0));
      }
    where
      swap : (x y z w : C) → x ⊕ (y ⊕ (z ⊕ nought)) ≈ w → y ⊕ (x ⊕ (z ⊕ nought)) ≈ w
      swap x y z w h = linear R (x ∷ y ∷ z ∷ w ∷ []) (weigh R unit h) (search reads depth 40 fits 4000) none_left

      front : (x y z w : C) → x ⊕ (y ⊕ (z ⊕ nought)) ≈ w → z ⊕ (x ⊕ (y ⊕ nought)) ≈ w
      front x y z w h = linear R (x ∷ y ∷ z ∷ w ∷ []) (weigh R unit h) (search reads depth 40 fits 4000) none_left

  -- conversely, a group has admittances where the two laws have
  pub even_admitted : (y1 y0 : C) → IsEven c → IsAdmittance h (apart_law c) y1 → IsAdmittance h (common_law c) y0 → IsGroupAdmittance h c c c (even_matrix y1 y0)
  unfolding s t
  even_admitted y1 y0 e i1 i0 =
      let bc = back (same_entry c.mutual_r c.x_bc c.x_ab e.bc) in
      let ca = back (same_entry c.mutual_r c.x_ca c.x_ab e.ca) in
      let d = diagonal_sum s t y1 y0 _ _ apart_impedance common_impedance i1 i0 in
      let b = beside_sum s t y1 y0 _ _ apart_impedance common_impedance i1 i0 in
      record {
        first = (
          row3 _ _ _ _ _ _ _ _ _ _ (same s) (same t) ca (in_order _ _ _ _ d),
          (row3 _ _ _ _ _ _ _ _ _ _ (same t) (same s) bc (in_order _ _ _ _ b), (row3 _ _ _ _ _ _ _ _ _ _ ca bc (same s) (last_two _ _ _ _ b), tt)),
        );
        second = (
          row3 _ _ _ _ _ _ _ _ _ _ (same s) (same t) ca (first_two _ _ _ _ b),
          (row3 _ _ _ _ _ _ _ _ _ _ (same t) (same s) bc (first_two _ _ _ _ d), (row3 _ _ _ _ _ _ _ _ _ _ ca bc (same s) (to_middle _ _ _ _ b), tt)),
        );
        third = (
          row3 _ _ _ _ _ _ _ _ _ _ (same s) (same t) ca (to_last _ _ _ _ b),
          (row3 _ _ _ _ _ _ _ _ _ _ (same t) (same s) bc (turned _ _ _ _ b), (row3 _ _ _ _ _ _ _ _ _ _ ca bc (same s) (turned _ _ _ _ d), tt)),
        );
        only = record { only = zeros };
      }
    where
      in_order : (x y z w : C) → x ⊕ y ⊕ z ≈ w → x ⊕ (y ⊕ (z ⊕ nought)) ≈ w
      in_order x y z w h = linear R (x ∷ y ∷ z ∷ w ∷ []) (weigh R unit h) (search reads depth 40 fits 4000) none_left

      last_two : (x y z w : C) → x ⊕ y ⊕ z ≈ w → x ⊕ (z ⊕ (y ⊕ nought)) ≈ w
      last_two x y z w h = linear R (x ∷ y ∷ z ∷ w ∷ []) (weigh R unit h) (search reads depth 40 fits 4000) none_left

      first_two : (x y z w : C) → x ⊕ y ⊕ z ≈ w → y ⊕ (x ⊕ (z ⊕ nought)) ≈ w
      first_two x y z w h = linear R (x ∷ y ∷ z ∷ w ∷ []) (weigh R unit h) (search reads depth 40 fits 4000) none_left

      to_middle : (x y z w : C) → x ⊕ y ⊕ z ≈ w → z ⊕ (x ⊕ (y ⊕ nought)) ≈ w
      to_middle x y z w h = linear R (x ∷ y ∷ z ∷ w ∷ []) (weigh R unit h) (search reads depth 40 fits 4000) none_left

      to_last : (x y z w : C) → x ⊕ y ⊕ z ≈ w → y ⊕ (z ⊕ (x ⊕ nought)) ≈ w
      to_last x y z w h = linear R (x ∷ y ∷ z ∷ w ∷ []) (weigh R unit h) (search reads depth 40 fits 4000) none_left

      turned : (x y z w : C) → x ⊕ y ⊕ z ≈ w → z ⊕ (y ⊕ (x ⊕ nought)) ≈ w
      turned x y z w h = linear R (x ∷ y ∷ z ∷ w ∷ []) (weigh R unit h) (search reads depth 40 fits 4000) none_left

      swap : (x y z w : C) → x ⊕ (y ⊕ (z ⊕ nought)) ≈ w → y ⊕ (x ⊕ (z ⊕ nought)) ≈ w
      swap x y z w h = linear R (x ∷ y ∷ z ∷ w ∷ []) (weigh R unit h) (search reads depth 40 fits 4000) none_left

      front : (x y z w : C) → x ⊕ (y ⊕ (z ⊕ nought)) ≈ w → z ⊕ (x ⊕ (y ⊕ nought)) ≈ w
      front x y z w h = linear R (x ∷ y ∷ z ∷ w ∷ []) (weigh R unit h) (search reads depth 40 fits 4000) none_left

      zero : (p q r : C) → s ⊗ p ⊕ (t ⊗ q ⊕ (t ⊗ r ⊕ nought)) ≈ nought → t ⊗ p ⊕ (s ⊗ q ⊕ (t ⊗ r ⊕ nought)) ≈ nought → t ⊗ p ⊕ (t ⊗ q ⊕ (s ⊗ r ⊕ nought)) ≈ nought → p ≈ nought
      zero = zero_of s t y1 y0 _ _ apart_impedance common_impedance i1 i0

      zeros : (x : List C) → length x ≡ 3 → Annuls complex_numbers (group_rows c c c h) x → IsZeroList complex_numbers x
      zeros [] l a = absurd (omega arith)
      zeros (p ∷ []) l a = absurd (omega arith)
      zeros (p ∷ q ∷ []) l a = absurd (omega arith)
      zeros (p ∷ q ∷ r ∷ w ∷ x) l a = absurd (omega arith)
      zeros (p ∷ q ∷ r ∷ []) l a =
          let bc = same_entry c.mutual_r c.x_bc c.x_ab e.bc in
          let ca = same_entry c.mutual_r c.x_ca c.x_ab e.ca in
          let r1 = row3 _ _ _ s t t _ _ _ _ (same s) (same t) ca a.0 in
          let r2 = row3 _ _ _ t s t _ _ _ _ (same t) (same s) bc a.1.0 in
          let r3 = row3 _ _ _ t t s _ _ _ _ ca bc (same s) a.1.1.0 in
          (zero p q r r1 r2 r3, (zero q p r (swap _ _ _ _ r2) (swap _ _ _ _ r1) (swap _ _ _ _ r3), (zero r p q (front _ _ _ _ r3) (front _ _ _ _ r1) (front _ _ _ _ r2), tt)))

-- ratios of taps one after the other, and opposed
ratio-append : (ts us : List Tap) (n : ℕ) → ratio_at (ts ++ us) n ≈ ratio_at ts n ⊕ ratio_at us n
ratio-append [] us n = ring R (ratio_at us n ∷ []) (search reads depth 40 fits 4000) none_left
ratio-append (t ∷ ts) us n = step _ _ _ _ (ratio-append ts us n)
  where
    step : (o a b c : C) → a ≈ b ⊕ c → o ⊕ a ≈ (o ⊕ b) ⊕ c
    step o a b c h = linear R (o ∷ a ∷ b ∷ c ∷ []) (weigh R unit h) (search reads depth 40 fits 4000) none_left

real-opposite : (x : Ratio) → real (opposite x) ≈ minus (real x)
real-opposite x = record {
  re = ratio_field.next (re-real _) (ratio_field.back (ratio_field.next (re-opposite (real x)) (ratio_field.minus_same (re-real x))));
  im = ratio_field.next (im-real _) (ratio_field.back (ratio_field.next (im-opposite (real x)) (ratio_field.next (ratio_field.minus_same (im-real x)) (ring ratio_ring [] (search reads depth 40 fits 4000) none_left))));
}

ratio-opposed : (ts : List Tap) (n : ℕ) → ratio_at (opposed ts) n ≈ minus (ratio_at ts n)
ratio-opposed [] n = ring R [] (search reads depth 40 fits 4000) none_left
ratio-opposed (t ∷ ts) n = step _ _ _ _ _ (real-opposite t.ratio) (ratio-opposed ts n)
  where
    step : (o c d a b : C) → d ≈ minus c → a ≈ minus b → o ⊗ d ⊕ a ≈ minus (o ⊗ c ⊕ b)
    step o c d a b h k = linear R (o ∷ c ∷ d ∷ a ∷ b ∷ []) (join R (weigh R o h) (weigh R unit k)) (search reads depth 40 fits 4000) none_left

ratio-less : (ts us : List Tap) (n : ℕ) → ratio_at (ts ++ opposed us) n ≈ ratio_at ts n ⊕ minus (ratio_at us n)
ratio-less ts us n = next (ratio-append ts (opposed us) n) (add_same (same _) (ratio-opposed us n))

ratio-three : (ts us vs : List Tap) (n : ℕ) → ratio_at (ts ++ us ++ vs) n ≈ ratio_at ts n ⊕ (ratio_at us n ⊕ ratio_at vs n)
ratio-three ts us vs n = next (ratio-append (ts ++ us) vs n) (next (add_same (ratio-append ts us n) (same _)) (complex_field.add_assoc _ _ _))

by_itself : (taps : List Tap) (y p q : C) (n n' : ℕ) → ratio_at taps n ≈ p → ratio_at taps n' ≈ q → pair_entry taps taps y n n' ≈ p ⊗ (y ⊗ q)
by_itself taps y p q n n' h k = next (pair_entry-is taps taps y n n') (mul_same h (mul_same (same y) k))

by_two : (ts us : List Tap) (y z : C) (n n' : ℕ) → y ≈ z → pair_entry ts us y n n' ≈ ratio_at ts n ⊗ (z ⊗ ratio_at us n')
by_two ts us y z n n' h = next (pair_entry-is ts us y n n') (mul_same (same _) (mul_same h (same _)))

pub even_entry : (h : Order) (c : Coupling) (a b d : Branch) (Y : ℕ → ℕ → C) (y1 y0 : C) → IsGroupAdmittance h c c c Y → IsEven c → IsAdmittance h (apart_law c) y1 → IsAdmittance h (common_law c) y0 → (n n' : ℕ)
    → part_entry (Group a b d Y) n n'
    ≈ pair_entry (a.taps ++ opposed b.taps) (a.taps ++ opposed b.taps) y1 n n' ⊕ (pair_entry (b.taps ++ opposed d.taps) (b.taps ++ opposed d.taps) y1 n n'
    ⊕ (pair_entry (a.taps ++ opposed d.taps) (a.taps ++ opposed d.taps) y1 n n' ⊕ pair_entry (a.taps ++ b.taps ++ d.taps) (a.taps ++ b.taps ++ d.taps) y0 n n'))
even_entry h c a b d Y y1 y0 g e i1 i0 n n' =
    let k = nine_of h c Y y1 y0 g e i1 i0 in
    next (add_same (add_same (add_same (add_same (add_same (add_same (add_same (add_same
    (by_two _ _ _ _ n n' k.first.self) (by_two _ _ _ _ n n' k.second.next_one)) (by_two _ _ _ _ n n' k.third_one.next_one))
    (by_two _ _ _ _ n n' k.first.next_one)) (by_two _ _ _ _ n n' k.second.self)) (by_two _ _ _ _ n n' k.third_one.last_one))
    (by_two _ _ _ _ n n' k.first.last_one)) (by_two _ _ _ _ n n' k.second.last_one)) (by_two _ _ _ _ n n' k.third_one.self))
    (next (expand (ratio_at a.taps n) (ratio_at b.taps n) (ratio_at d.taps n) (ratio_at a.taps n') (ratio_at b.taps n') (ratio_at d.taps n') y1 y0)
    (back (add_same (by_itself _ y1 _ _ n n' (ratio-less a.taps b.taps n) (ratio-less a.taps b.taps n')) (add_same (by_itself _ y1 _ _ n n' (ratio-less b.taps d.taps n) (ratio-less b.taps d.taps n'))
    (add_same (by_itself _ y1 _ _ n n' (ratio-less a.taps d.taps n) (ratio-less a.taps d.taps n')) (by_itself _ y0 _ _ n n' (ratio-three a.taps b.taps d.taps n) (ratio-three a.taps b.taps d.taps n')))))))
  where
    expand : (p q r u v w y1 y0 : C)
        → p ⊗ ((y1 ⊕ y1 ⊕ y0) ⊗ u) ⊕ p ⊗ ((y0 ⊕ minus y1) ⊗ v) ⊕ p ⊗ ((y0 ⊕ minus y1) ⊗ w)
        ⊕ q ⊗ ((y0 ⊕ minus y1) ⊗ u) ⊕ q ⊗ ((y1 ⊕ y1 ⊕ y0) ⊗ v) ⊕ q ⊗ ((y0 ⊕ minus y1) ⊗ w)
        ⊕ r ⊗ ((y0 ⊕ minus y1) ⊗ u) ⊕ r ⊗ ((y0 ⊕ minus y1) ⊗ v) ⊕ r ⊗ ((y1 ⊕ y1 ⊕ y0) ⊗ w)
        ≈ (p ⊕ minus q) ⊗ (y1 ⊗ (u ⊕ minus v)) ⊕ ((q ⊕ minus r) ⊗ (y1 ⊗ (v ⊕ minus w)) ⊕ ((p ⊕ minus r) ⊗ (y1 ⊗ (u ⊕ minus w)) ⊕ (p ⊕ (q ⊕ r)) ⊗ (y0 ⊗ (u ⊕ (v ⊕ w)))))
    expand p q r u v w y1 y0 = ring R (p ∷ q ∷ r ∷ u ∷ v ∷ w ∷ y1 ∷ y0 ∷ []) (search reads depth 60 fits 20000) none_left
