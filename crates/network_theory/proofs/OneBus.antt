-- Networks of one bus.
use Rattle.std.proofs.Common.{◌≡◌, ℕ, zero, suc, ◌<◌, pos, negsuc, List, [], ◌∷◌, map, ap, refl, subst, sym, arith, length, get_or}
use Rattle.std.proofs.lemmas.Int.{ints}
use Rattle.std.specs.Prelude.{Contains, slice_get, Some}
use Rattle.exact_algebra.specs.Ratio.{Ratio, ◌≈◌ as ◌≈ᵣ◌, over, whole, plus, times, opposite, reciprocal, reciprocal_of, den, common, ◌≺◌}
use Rattle.exact_algebra.specs.Complex.{Complex, complex_numbers, complex_over, complex_times, complex_plus, complex_whole, real_part, imaginary_part, real, ◌+j◌, square_size}
use Rattle.exact_algebra.proofs.Complexes.{complex_field}
use Rattle.exact_algebra.proofs.Ratios.{ratio_ring}
use Rattle.exact_algebra.proofs.Reader.{reads, ring, linear, weigh, none_left}
use Rattle.network_theory.specs.Order.{Order, fraction}
use Rattle.network_theory.specs.Branch.{Law, Series, Shunt, Branch}
use Rattle.network_theory.specs.Network.{Network}
use Rattle.network_theory.specs.Live.{Live, Carries, itself}
use Rattle.network_theory.specs.Impedance.{resistance, reactance, series_impedance, shunt_admittance}
use Rattle.network_theory.specs.State.{State, KeepsLaw, drop, leaving}
use Rattle.network_theory.specs.DrivingPoint.{IsDrivingPoint, unit_at, in_ohms}
use Rattle.network_theory.specs.Threshold.{per_unit}
use Rattle.network_theory.specs.OneNode.{ground_tap, IsOneNode, sum_of}
use Rattle.network_theory.proofs.OneNode.{real-unit, only_node, node_live, ground_parts, one_node_system, one_node_reduced}
use Rattle.std.specs.List.{AllZip}
use Rattle.network_theory.specs.Admittance.{IsAdmittance}
use Rattle.network_theory.specs.OneBus.{to_ground, one_bus, SeriesAlone, BesideShunt, AtThreeAndAQuarter, AtFiveAndAQuarter, NoneAtFive}
use Rattle.exact_algebra.proofs.Reals.{plus_j_same}
use Rattle.network_theory.proofs.Numbers.{R, one_at, one_at-apart}
use Rattle.network_theory.proofs.Only.{only_impedance}
use Rattle.network_theory.proofs.Reduced.{reduced_impedance}
use Rattle.network_theory.proofs.Driven as B
open complex_numbers use {◌≈◌, nought, unit, ◌⊕◌, ◌⊗◌, minus, inverse}
open complex_field use {same, back, next, add_same, mul_same, minus_same}

abbrev C : Type 0
C = Complex

abbrev nil : Ratio
nil = whole (pos 0)

-- R is r where k is 0, and km/(m + h²) counts as 0 there
pub resistance_plain : (r k m : Ratio) (h : Order) → k ≈ᵣ whole (pos 0) → resistance r k m h ≈ᵣ r
unfolding resistance
resistance_plain r k m h e =
    let i = reciprocal (plus m (times (fraction h) (fraction h))) in
    linear ratio_ring (r ∷ k ∷ m ∷ i ∷ []) (weigh ratio_ring (times r (plus (whole (pos 1)) (opposite (times m i)))) e) (search reads depth 40 fits 4000) none_left

reactance_plain : (x : Ratio) (h : Order) → reactance x nil h ≈ᵣ times (fraction h) x
unfolding reactance
reactance_plain x h =
    let i = reciprocal (fraction h) in
    ring ratio_ring (x ∷ fraction h ∷ i ∷ []) (search reads depth 40 fits 4000) none_left

series_plain : (h : Order) (r m x : Ratio) → series_impedance r nil m x nil h ≈ r +j times (fraction h) x
unfolding series_impedance
series_plain h r m x = plus_j_same (resistance_plain r nil m h (ratio_ring.same nil)) (reactance_plain x h)

taps_of : (laws : List Law) (b : Branch) → Contains (map to_ground laws) b → b.taps ≡ ground_tap ∷ []
taps_of [] b k = absurd (omega (arith, k.1))
taps_of (l ∷ laws) b k = go k.0 k.1 k.2 (λ i p e. taps_of laws b (i, p, e))
  where
    go : (i : ℕ) → i < suc (length (map to_ground laws)) → get_or (to_ground l ∷ map to_ground laws) i b ≡ b → ((i : ℕ) → i < length (map to_ground laws) → get_or (map to_ground laws) i b ≡ b → b.taps ≡ ground_tap ∷ []) → b.taps ≡ ground_tap ∷ []
    go zero p e more = ap (λ z. z.taps) (sym e)
    go (suc i) p e more = more i (omega arith) e

is_one_node : (l : Law) (laws : List Law) → IsOneNode (one_bus (l ∷ laws))
is_one_node l laws = record { first = to_ground l; has = (0, omega arith, refl); each = taps_of (l ∷ laws) }

bus_live : (l : Law) (laws : List Law) → Live (one_bus (l ∷ laws)) 0
bus_live l laws = node_live (one_bus (l ∷ laws)) (is_one_node l laws)

carries_first : (l : Law) (laws : List Law) → Carries (one_bus (l ∷ laws)) (to_ground l)
carries_first l laws = itself (record { tap = ground_tap; has = (0, omega arith, refl); live = bus_live l laws })

-- the one law of a network of one branch
one_law : (l : Law) (i : ℕ) (b : Branch) → slice_get (to_ground l ∷ []) i ≡ Some b → to_ground l ≡ b
one_law l zero b g = cc
one_law l (suc i) b g = absurd cc

real_one : (u : C) → real (whole (pos 1)) ⊗ u ⊕ nought ≈ u
real_one u = linear R (real (whole (pos 1)) ∷ u ∷ []) (weigh R u real-unit) (search reads depth 40 fits 4000) none_left

-- one Series to ground
pub series_alone : SeriesAlone
series_alone h r m x = record {
  live = bus_live law [];
  state = record { voltage = V; current = λ i. unit };
  exact = record {
    dead = λ n l. next (mul_same (one_at-apart 0 n (λ q. l (subst (λ k. Live net k) q (bus_live law [])))) (same z)) (ring R (z ∷ []) (search reads depth 40 fits 4000) none_left);
    laws = λ i b g c. subst (λ o. KeepsLaw o.law h (λ j. unit) i (drop V o.taps)) (one_law law i b g) (next (ring R (z ∷ []) (search reads depth 40 fits 4000) none_left) (back (real_one (unit ⊗ z))));
    sums = λ n l. subst (λ k. leaving net.branches (λ i. unit) k ≈ unit_at 0 k) (sym (only_node net (is_one_node law []) n l)) (next (complex_field.add_nought _) (real_one unit));
  };
  at_node = next (ring R (z ∷ []) (search reads depth 40 fits 4000) none_left) (series_plain h r m x);
  only_zero = record {
    zero = λ s k.
        let i : s.current 0 ≈ nought = next (back (real_one (s.current 0))) (next (back (complex_field.add_nought _)) (k.sums 0 (bus_live law []))) in
        let e : z ⊗ s.current 0 ≈ s.voltage 0 = next (k.laws 0 (to_ground law) refl (carries_first law [])) (real_one (s.voltage 0)) in
        let v : s.voltage 0 ≈ nought = next (back e) (next (mul_same (same z) i) (ring R (z ∷ []) (search reads depth 40 fits 4000) none_left)) in
        record {
          voltages = λ n l. subst (λ j. s.voltage j ≈ nought) (sym (only_node net (is_one_node law []) n l)) v;
          currents = λ j b g c. first s i j b g;
        };
  };
}
  where
    law : Law
    law = Series r nil m x nil

    net : Network
    net = one_bus (law ∷ [])

    z : C
    z = series_impedance r nil m x nil h

    V : ℕ → C
    V n = one_at 0 n ⊗ z

    first : (s : State) → s.current 0 ≈ nought → (j : ℕ) (b : Branch) → slice_get (to_ground law ∷ []) j ≡ Some b → s.current j ≈ nought
    first s i zero b g = i
    first s i (suc j) b g = absurd cc

pub beside_shunt : BesideShunt
beside_shunt h r k m x xc b y e = record {
  exists = exists;
  only = λ n Z d.
      let w = inverse total in
      let q : w ⊗ total ≈ unit = next (complex_field.mul_comm w total) (complex_field.mul_inverse total n) in
      next (mul_same (only_impedance net h 0 Z w d (exists n w q)) (same total)) q;
  none = λ z Z d.
      let inj = B.injective_matrix net h (ground_parts net.branches admittances) (0 ∷ []) ((sum_of admittances ∷ []) ∷ []) (one_node_system net h admittances node admitted) d.only_zero in
      let i = inj.only (unit ∷ []) refl (next (ring R (y ∷ y' ∷ []) (search reads depth 40 fits 4000) none_left) z, tt) in
      complex_field.unit_apart i.0;
}
  where
    l : Law
    l = Series r k m x xc

    l' : Law
    l' = Shunt b

    net : Network
    net = one_bus (l ∷ l' ∷ [])

    y' : C
    y' = shunt_admittance b h

    total : C
    total = y ⊕ y'

    admittances : List C
    admittances = y ∷ y' ∷ []

    node : IsOneNode net
    node = is_one_node l (l' ∷ [])

    admitted : AllZip (λ b u. IsAdmittance h b.law u) net.branches admittances
    admitted = (e, (same y', tt))

    as_sum : sum_of admittances ≈ total
    as_sum = ring R (y ∷ y' ∷ []) (search reads depth 40 fits 4000) none_left

    exists : ¬ (total ≈ nought) → (Z : C) → Z ⊗ total ≈ unit → IsDrivingPoint net h 0 Z
    exists n Z q =
        reduced_impedance net h 0 (sum_of admittances) Z (one_node_reduced net h admittances node admitted)
        (λ z. n (next (back as_sum) z)) (next (mul_same (same Z) as_sum) q)

-- the impedance at order 13/4, as (a + jb)/d
quarter : (whole (pos 0) +j times (over (pos 13) 4) (whole (pos 1))) ≈ complex_over (pos 0) (pos 13) 4
unfolding ◌+j◌ times whole common den real_part imaginary_part
quarter = record { re = record { cross = refl }; im = record { cross = refl } }

quarter_ohms : square_size (in_ohms (whole (pos 10)) (whole (pos 100)) (complex_over (pos 0) (pos 13) 4)) ≈ᵣ times (over (pos 325) 100) (over (pos 325) 100)
unfolding square_size in_ohms real times whole common den reciprocal reciprocal_of complex_times
quarter_ohms = record { cross = refl }

quarter_above : times (per_unit (λ h. over (pos 1) 2) (whole (pos 10)) (whole (pos 100)) (record { n = 13; d = 4 })) (per_unit (λ h. over (pos 1) 2) (whole (pos 10)) (whole (pos 100)) (record { n = 13; d = 4 })) ≺ square_size (complex_over (pos 0) (pos 13) 4)
unfolding square_size per_unit times whole common den reciprocal reciprocal_of
quarter_above = record { cross = omega (arith, ints) }

pub at_three_and_a_quarter : AtThreeAndAQuarter
at_three_and_a_quarter = record {
  exists =
      let d = series_alone (record { n = 13; d = 4 }) (whole (pos 0)) (whole (pos 1)) (whole (pos 1)) in
      record { live = d.live; state = d.state; exact = d.exact; at_node = next d.at_node quarter; only_zero = d.only_zero };
  ohms = quarter_ohms;
  above = quarter_above;
}

five_series : series_impedance (whole (pos 0)) (whole (pos 0)) (whole (pos 1)) (whole (pos 1)) (whole (pos 0)) (record { n = 5; d = 1 }) ⊗ complex_over (pos 0) (negsuc 0) 5 ≈ unit
unfolding series_impedance resistance reactance ◌+j◌ times plus opposite whole common den reciprocal reciprocal_of complex_times complex_whole real_part imaginary_part
five_series = record { re = record { cross = refl }; im = record { cross = refl } }

five_sum : complex_over (pos 0) (negsuc 0) 5 ⊕ shunt_admittance (over (pos 4) 100) (record { n = 5; d = 1 }) ≈ nought
unfolding shunt_admittance ◌+j◌ times whole common den complex_plus complex_whole real_part imaginary_part
five_sum = record { re = record { cross = refl }; im = record { cross = refl } }

pub none_at_five : NoneAtFive
none_at_five = (beside_shunt (record { n = 5; d = 1 }) (whole (pos 0)) (whole (pos 0)) (whole (pos 1)) (whole (pos 1)) (whole (pos 0)) (over (pos 4) 100) (complex_over (pos 0) (negsuc 0) 5) five_series).none five_sum

quarter_series : series_impedance (over (pos 1) 10) (whole (pos 0)) (whole (pos 1)) (whole (pos 1)) (whole (pos 0)) (record { n = 21; d = 4 }) ⊗ complex_over (pos 40) (negsuc 2099) 11029 ≈ unit
unfolding series_impedance resistance reactance ◌+j◌ times plus opposite whole common den reciprocal reciprocal_of complex_times complex_whole real_part imaginary_part
quarter_series = record { re = record { cross = refl }; im = record { cross = refl } }

quarter_product : complex_over (pos 4411600000) (negsuc 23832566099) 482948881 ⊗ (complex_over (pos 40) (negsuc 2099) 11029 ⊕ shunt_admittance (over (pos 4) 100) (record { n = 21; d = 4 })) ≈ unit
unfolding shunt_admittance ◌+j◌ times whole common den complex_plus complex_times complex_whole real_part imaginary_part
quarter_product = record { re = record { cross = refl }; im = record { cross = refl } }

quarter_square : square_size (complex_over (pos 4411600000) (negsuc 23832566099) 482948881) ≈ᵣ over (pos 1216388410000) 482948881
unfolding square_size den
quarter_square = record { cross = refl }

-- a number whose product is 1 has factors other than 0
factor_apart : (Z y : C) → Z ⊗ y ≈ unit → ¬ (y ≈ nought)
factor_apart Z y e n = complex_field.unit_apart (next (back e) (next (mul_same (same Z) n) (ring R (Z ∷ []) (search reads depth 40 fits 4000) none_left)))

pub at_five_and_a_quarter : AtFiveAndAQuarter
at_five_and_a_quarter = record {
  exists =
      (beside_shunt (record { n = 21; d = 4 }) (over (pos 1) 10) (whole (pos 0)) (whole (pos 1)) (whole (pos 1)) (whole (pos 0)) (over (pos 4) 100) (complex_over (pos 40) (negsuc 2099) 11029) quarter_series).exists
      (factor_apart _ _ quarter_product) _ quarter_product;
  square = quarter_square;
}
