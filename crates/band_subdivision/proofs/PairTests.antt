-- The reduced admittances of a pair of networks hold the exact ones.
use Rattle.std.proofs.Common.{◌≡◌, ℕ, List, [], ◌∷◌, ℤ, pos, ◌≤ℤ◌, Bool, true, false, Some, Result, Ok, Err, refl, subst, arith}
use Rattle.std.specs.Prelude.{int_lt, if◌then◌else◌}
use Rattle.std.specs.Result.{result_ok}
use Rattle.std.proofs.lemmas.Int.{ints}
use Rattle.exact_algebra.specs.Ratio.{Ratio, ◌≈◌, plus, times, whole, opposite}
use Rattle.exact_algebra.specs.Complex.{Complex, complex_plus, real_part, imaginary_part}
use Rattle.exact_algebra.proofs.Complexes.{re-complex_plus, im-complex_plus}
use Rattle.exact_algebra.proofs.Holding.{holds_along}
use Rattle.exact_algebra.proofs.Ratios.{ratio_ring, num_nought}
use Rattle.exact_algebra.proofs.Reader.{reads, linear, weigh, join, none_left}
use Rattle.exact_algebra.proofs.Reals.{re-plus_j, im-plus_j}
use Rattle.complex_interval.specs.Ends.{range_ends}
use Rattle.complex_interval.specs.Rectangles.{Rectangle, EnclosesComplex}
use Rattle.complex_interval.proofs.Held.{add_encloses, mul_encloses}
use Rattle.complex_interval.proofs.Ranges.{fraction_encloses}
use Rattle.network_theory.specs.Order.{Order, IsOrder, fraction}
use Rattle.network_theory.specs.Box.{LiesIn}
use Rattle.network_theory.specs.Network.{Network}
use Rattle.network_theory.specs.Between.{LiesBetween}
use Rattle.network_theory.specs.Extra.{with_shunt, scanned_network}
use Rattle.network_theory.specs.Impedance.{shunt_admittance}
use Rattle.network_theory.specs.Reduced.{IsReducedTo}
use Rattle.network_theory.proofs.Extra.{extra_shunt}
use Rattle.admittance_box.specs.HeldMatrix.{CanAssemble, HoldsReduced}
use Rattle.admittance_box.specs.Orders.{order_ends}
use Rattle.admittance_box.proofs.Ranges.{order_encloses}
use Rattle.admittance_box.proofs.ReducedMatrices.{reduced_matrix_holds}
use Rattle.admittance_box.proofs.Steps.{bind-some}
use Rattle.band_subdivision.specs.PairTest.{with_extra, pair_value}
use Rattle.band_subdivision.specs.Levels.{orders}
use Rattle.band_subdivision.specs.Truth.{ReducesTo}

-- the exact admittance of the extra susceptance
module _ (e : Ratio) (h : Order) (z : Complex) where
  -- it adds to the imaginary part alone
  real_stays : real_part z ≈ real_part (complex_plus z (shunt_admittance e h))
  unfolding shunt_admittance
  real_stays =
      let w = shunt_admittance e h in
      let none = re-plus_j (whole (pos 0)) (times (fraction h) e) in
      linear ratio_ring (real_part z ∷ real_part w ∷ real_part (complex_plus z w) ∷ [])
      (join ratio_ring (weigh ratio_ring (opposite (whole (pos 1))) (re-complex_plus z w)) (weigh ratio_ring (opposite (whole (pos 1))) none))
      (search reads depth 40 fits 4000) none_left

  imaginary_grows : plus (imaginary_part z) (times (fraction h) e) ≈ imaginary_part (complex_plus z (shunt_admittance e h))
  unfolding shunt_admittance
  imaginary_grows =
      let w = shunt_admittance e h in
      let part = im-plus_j (whole (pos 0)) (times (fraction h) e) in
      linear ratio_ring (imaginary_part z ∷ fraction h ∷ e ∷ imaginary_part w ∷ imaginary_part (complex_plus z w) ∷ [])
      (join ratio_ring (weigh ratio_ring (opposite (whole (pos 1))) (im-complex_plus z w)) (weigh ratio_ring (opposite (whole (pos 1))) part))
      (search reads depth 40 fits 4000) none_left

  -- by nothing, where the susceptance is 0
  imaginary_stays : e ≈ whole (pos 0) → imaginary_part (complex_plus z (shunt_admittance e h)) ≈ imaginary_part z
  imaginary_stays none =
      let w = shunt_admittance e h in
      let sum = imaginary_grows in
      linear ratio_ring (imaginary_part z ∷ fraction h ∷ e ∷ imaginary_part (complex_plus z w) ∷ [])
      (join ratio_ring (weigh ratio_ring (opposite (whole (pos 1))) sum) (weigh ratio_ring (fraction h) none))
      (search reads depth 40 fits 4000) none_left

-- with H·e added to the imaginary part, a box that held a number holds the sum with jhe
pub extra_held : (s lo hi : ℕ) (e : Ratio) (y held : Rectangle) (z : Complex) (h : Order) → IsOrder h → LiesIn h (orders lo hi) → with_extra s (range_ends s e e) lo hi y ≡ Some held
    → EnclosesComplex s y z → EnclosesComplex s held (complex_plus z (shunt_admittance e h))
extra_held s lo hi e y held z h is_order inside made holds =
    let (b, is_b, rest) = bind-some _ _ held made in
    let (more, is_more, sum) = bind-some _ _ held rest in
    let (im, is_im, whole_rectangle) = bind-some _ _ held sum in
    let same : record { re = y.re; im = im } ≡ held = cc in
    let part = mul_encloses s (order_ends s lo hi) b (fraction h) e (order_encloses s lo hi h is_order inside) (fraction_encloses s e b is_b) more is_more in
    let P : Rectangle → Type 0 = λ t. EnclosesComplex s t (complex_plus z (shunt_admittance e h)) in
    subst P same (record {
      re = holds_along _ _ s _ _ (real_stays e h z) holds.re;
      im = holds_along _ _ s _ _ (imaginary_grows e h z) (add_encloses s y.im more _ _ holds.im part im is_im);
    })

-- what a value of the pair holds, step by step
pub ok_some : {X E : Type 0} (r : Result X E) (x : X) → result_ok r ≡ Some x → r ≡ Ok x
ok_some (Ok y) x h = cc
ok_some (Err e) x h = absurd (cc)

pub not_above : (z : ℤ) → pos 0 ≤ℤ z → int_lt (pos 0) z ≡ false → z ≡ pos 0
not_above z h none = grind (arith, ints)

-- where that is 0, it holds the number itself
pub held_without : (s : ℕ) (e : Ratio) (h : Order) (y : Complex) (held : Rectangle) → e ≈ whole (pos 0) → EnclosesComplex s held (complex_plus y (shunt_admittance e h)) → EnclosesComplex s held y
held_without s e h y held nothing holds = record {
  re = holds_along _ _ s _ _ (ratio_ring.back (real_stays e h y)) holds.re;
  im = holds_along _ _ s _ _ (imaginary_stays e h y nothing) holds.im;
}

scanned_held : (s : ℕ) (network : Network) (driven : ℕ) (e : Ratio) (h : Order) (y : Complex) (held : Rectangle) → pos 0 ≤ℤ e.num → IsReducedTo network h driven y
    → EnclosesComplex s held (complex_plus y (shunt_admittance e h)) → HoldsReduced s (scanned_network network driven e) h driven held
scanned_held s network driven e h y held natural reduced holds = by (int_lt (pos 0) e.num) refl
  where
    by : (t : Bool) → int_lt (pos 0) e.num ≡ t → HoldsReduced s (if t then with_shunt network driven e else network) h driven held
    by true some = record { y = complex_plus y (shunt_admittance e h); reduced = extra_shunt network h driven y e reduced; held = holds }
    by false none =
        let nothing : e ≈ whole (pos 0) = num_nought e (not_above e.num natural none) in
        record { y = y; reduced = reduced; held = held_without s e h y held nothing holds }

pub pair_reduces : (s from : ℕ) (low high : Network) (driven : ℕ) (ordering : List ℕ) (e : Ratio) → CanAssemble low high driven ordering → pos 0 ≤ℤ e.num
    → (network : Network) → LiesBetween network low high → ReducesTo s from (pair_value s low high ordering e) (scanned_network network driven e) driven
unfolding pair_value
pair_reduces s from low high driven ordering e can natural network between = record {
  at_each = λ lo hi held h testable value is_order inside.
      let (rows, is_rows, reduced) = bind-some _ _ held value in
      let (y, is_y, made) = bind-some _ _ held reduced in
      let exact = reduced_matrix_holds s low high driven ordering can lo hi rows y (ok_some _ _ is_rows) (ok_some _ _ is_y) h is_order inside network between in
      scanned_held s network driven e h exact.y held natural exact.reduced (extra_held s lo hi e y held exact.y h is_order inside made exact.held);
}
