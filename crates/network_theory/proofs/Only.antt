-- The driving-point impedance is one number.
use Rattle.std.proofs.Common.{ℕ, zero, suc, [], ◌∷◌}
use Rattle.exact_algebra.specs.Complex.{Complex, complex_numbers}
use Rattle.exact_algebra.proofs.Complexes.{complex_field}
use Rattle.exact_algebra.proofs.Reader.{reads, linear, weigh, join, none_left}
use Rattle.network_theory.specs.Order.{Order}
use Rattle.network_theory.specs.Branch.{Law, Series, Shunt, Coupled3}
use Rattle.network_theory.specs.Network.{Network}
use Rattle.network_theory.specs.Impedance.{series_impedance, shunt_admittance}
use Rattle.network_theory.specs.State.{State, KeepsLaw, IsExactState, drop, leaving}
use Rattle.network_theory.specs.DrivingPoint.{IsDrivingPoint, no_injection}
use Rattle.network_theory.proofs.Numbers.{R}
use Rattle.network_theory.proofs.Sums.{drop-less, leaving-less}
open complex_numbers use {◌≈◌, nought, unit, ◌⊕◌, ◌⊗◌, minus}
open complex_field use {same, back, next, add_same, mul_same, minus_same}

abbrev C : Type 0
C = Complex

three_less : (a b c x y z u v w : C) (d e f : C) → a ⊗ x ⊕ (b ⊗ y ⊕ (c ⊗ z ⊕ nought)) ≈ d → a ⊗ u ⊕ (b ⊗ v ⊕ (c ⊗ w ⊕ nought)) ≈ e → f ≈ d ⊕ minus e
    → a ⊗ (x ⊕ minus u) ⊕ (b ⊗ (y ⊕ minus v) ⊕ (c ⊗ (z ⊕ minus w) ⊕ nought)) ≈ f
three_less a b c x y z u v w d e f p q r =
    linear R (a ∷ b ∷ c ∷ x ∷ y ∷ z ∷ u ∷ v ∷ w ∷ d ∷ e ∷ f ∷ []) (join R (weigh R unit p) (join R (weigh R (minus unit) q) (weigh R (minus unit) r))) (search reads depth 40 fits 4000) none_left

-- a law is kept by the difference of two states that keep it
pub law-less : (l : Law) (h : Order) (I K : ℕ → C) (i : ℕ) (d e f : C) → KeepsLaw l h I i d → KeepsLaw l h K i e → f ≈ d ⊕ minus e → KeepsLaw l h (λ j. I j ⊕ minus (K j)) i f
law-less (Series r k m x xc) h I K i d e f p q s =
    let Z = series_impedance r k m x xc h in
    linear R (Z ∷ I i ∷ K i ∷ d ∷ e ∷ f ∷ []) (join R (weigh R unit p) (join R (weigh R (minus unit) q) (weigh R (minus unit) s))) (search reads depth 40 fits 4000) none_left
law-less (Shunt b) h I K i d e f p q s =
    let y = shunt_admittance b h in
    linear R (y ∷ I i ∷ K i ∷ d ∷ e ∷ f ∷ []) (join R (weigh R unit p) (join R (weigh R (minus unit) q) (weigh R (minus y) s))) (search reads depth 40 fits 4000) none_left
law-less (Coupled3 zero c) h I K i d e f p q s =
    three_less _ _ _ _ _ _ _ _ _ d e f p q s
law-less (Coupled3 (suc zero) c) h I K i d e f p q s =
    three_less _ _ _ _ _ _ _ _ _ d e f p q s
law-less (Coupled3 (suc (suc n)) c) h I K i d e f p q s =
    three_less _ _ _ _ _ _ _ _ _ d e f p q s

-- the difference of two states for one injection has no injection
pub state-less : (network : Network) (h : Order) (J : ℕ → C) (s t : State) → IsExactState network h J s → IsExactState network h J t
    → IsExactState network h no_injection (record { voltage = λ n. s.voltage n ⊕ minus (t.voltage n); current = λ i. s.current i ⊕ minus (t.current i) })
state-less network h J s t p q = record {
  dead = λ n l.
      linear R (s.voltage n ∷ t.voltage n ∷ []) (join R (weigh R unit (p.dead n l)) (weigh R (minus unit) (q.dead n l))) (search reads depth 40 fits 4000) none_left;
  laws = λ i b e c.
      law-less b.law h s.current t.current i (drop s.voltage b.taps) (drop t.voltage b.taps) _ (p.laws i b e c) (q.laws i b e c) (drop-less s.voltage t.voltage b.taps);
  sums = λ n l.
      linear R (leaving network.branches s.current n ∷ leaving network.branches t.current n ∷ leaving network.branches (λ i. s.current i ⊕ minus (t.current i)) n ∷ J n ∷ [])
      (join R (weigh R unit (leaving-less network.branches s.current t.current n)) (join R (weigh R unit (p.sums n l)) (weigh R (minus unit) (q.sums n l))))
      (search reads depth 40 fits 4000) none_left;
}

pub only_impedance : (network : Network) (h : Order) (k : ℕ) (Z W : C) → IsDrivingPoint network h k Z → IsDrivingPoint network h k W → Z ≈ W
only_impedance network h k Z W p q =
    let z = p.only_zero.zero _ (state-less network h _ p.state q.state p.exact q.exact) in
    let e = z.voltages k p.live in
    linear R (p.state.voltage k ∷ q.state.voltage k ∷ Z ∷ W ∷ []) (join R (weigh R unit e) (join R (weigh R (minus unit) p.at_node) (weigh R unit q.at_node))) (search reads depth 40 fits 4000) none_left
