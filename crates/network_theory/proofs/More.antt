-- Currents of states, parts without a live node, and networks between themselves.
use Rattle.std.proofs.Common.{◌≡◌, ℕ, suc, ◌+◌, List, [], ◌∷◌, refl, subst, sym, arith}
use Rattle.std.specs.Prelude.{Contains, slice_get, Some}
use Rattle.std.specs.List.{AllZip}
use Rattle.std.specs.Int.Signed.{≤ℤ_refl}
use Rattle.exact_algebra.specs.Ratio.{Ratio, ◌≼◌}
use Rattle.exact_algebra.specs.Complex.{Complex, complex_numbers}
use Rattle.exact_algebra.proofs.Complexes.{complex_field}
use Rattle.exact_algebra.proofs.Reader.{reads, linear, weigh, join, none_left}
use Rattle.network_theory.specs.Branch.{Tap, Law, Series, Shunt, Coupled3, Branch}
use Rattle.network_theory.specs.Live.{Live, HasLiveNode}
use Rattle.network_theory.specs.State.{KeepsLaw, drop}
use Rattle.network_theory.specs.Between.{TapUpTo, LawUpTo, BranchUpTo, IsPair}
use Rattle.network_theory.specs.Admittance.{Part, Alone, Group, branches_of}
use Rattle.network_theory.specs.Current.{current_of}
use Rattle.network_theory.specs.Laws.{StateCurrents, DeadPart, BetweenItself}
use Rattle.network_theory.proofs.Numbers.{R, one_at-apart}
use Rattle.network_theory.proofs.Sums.{ratio_at}
use Rattle.network_theory.proofs.Carried.{part_carried, part_entry-is}
use Rattle.network_theory.proofs.Currents.{flow}
open complex_numbers use {◌≈◌, nought, unit, ◌⊕◌, ◌⊗◌, minus}
open complex_field use {same, back, next, add_same, mul_same}

abbrev C : Type 0
C = Complex

plain : (j : ℕ) → 0 + j ≡ j
plain j = omega arith

pub state_currents : StateCurrents
state_currents network h J parts A s x i b e c =
    let f : Branch → C = λ o. drop s.voltage o.taps in
    subst (λ k. s.current k ≈ current_of parts f i) (plain i)
    (flow network h s.current f parts 0 A.each
    (λ o. subst (λ bs. Contains bs o) (sym A.all))
    (λ j o g c'. subst (λ k. KeepsLaw o.law h s.current k (f o)) (sym (plain j)) (x.laws j o (subst (λ bs. slice_get bs j ≡ Some o) (sym A.all) g) c'))
    i b (subst (λ bs. slice_get bs i ≡ Some b) A.all e) c)

ratio_at-none : (taps : List Tap) (n : ℕ) → ((t : Tap) → Contains taps t → ¬ (t.node ≡ n)) → ratio_at taps n ≈ nought
ratio_at-none [] n h = same _
ratio_at-none (t ∷ taps) n h =
    step _ _ _ (one_at-apart t.node n (h t (0, omega arith, refl))) (ratio_at-none taps n (λ u k. h u (suc k.0, omega (arith, k.1), k.2)))
  where
    step : (o r a : C) → o ≈ nought → a ≈ nought → o ⊗ r ⊕ a ≈ nought
    step o r a p q = linear R (o ∷ r ∷ a ∷ []) (join R (weigh R r p) (weigh R unit q)) (search reads depth 40 fits 4000) none_left

pub dead_part : DeadPart
dead_part network part dead n n' l = next (part_entry-is part n n') (none part dead)
  where
    f : Branch → C
    f b = ratio_at b.taps n'

    at_dead : (b : Branch) → ¬ HasLiveNode network b → ratio_at b.taps n ≈ nought
    at_dead b d = ratio_at-none b.taps n (λ t k q. d (record { tap = t; has = k; live = subst (λ j. Live network j) (sym q) l }))

    one : (o a : C) → o ≈ nought → o ⊗ a ≈ nought
    one o a p = linear R (o ∷ a ∷ []) (weigh R a p) (search reads depth 40 fits 4000) none_left

    three : (o p q a b c : C) → o ≈ nought → p ≈ nought → q ≈ nought → o ⊗ a ⊕ (p ⊗ b ⊕ q ⊗ c) ≈ nought
    three o p q a b c h k m = linear R (o ∷ p ∷ q ∷ a ∷ b ∷ c ∷ []) (join R (weigh R a h) (join R (weigh R b k) (weigh R c m))) (search reads depth 40 fits 4000) none_left

    none : (p : Part) → ((b : Branch) → Contains (branches_of p) b → ¬ HasLiveNode network b) → part_carried p f n ≈ nought
    none (Alone b y) d = one _ _ (at_dead b (d b (0, omega arith, refl)))
    none (Group a b c Y) d = three _ _ _ _ _ _ (at_dead a (d a (0, omega arith, refl))) (at_dead b (d b (1, omega arith, refl))) (at_dead c (d c (2, omega arith, refl)))

pub up_to : (x : Ratio) → x ≼ x
up_to x = record { cross = ≤ℤ_refl _ }

taps_up_to : (ts : List Tap) → AllZip TapUpTo ts ts
taps_up_to [] = tt
taps_up_to (t ∷ ts) = (record { node = refl; ratio = up_to t.ratio }, taps_up_to ts)

law_up_to : (l : Law) → LawUpTo l l
law_up_to (Series r k m x xc) = (up_to r, up_to k, up_to m, up_to x, up_to xc)
law_up_to (Shunt b) = up_to b
law_up_to (Coupled3 place c) = (refl, record { self_r = up_to c.self_r; self_x = up_to c.self_x; mutual_r = up_to c.mutual_r; x_ab = up_to c.x_ab; x_bc = up_to c.x_bc; x_ca = up_to c.x_ca; k = up_to c.k; m = up_to c.m })

branches_up_to : (bs : List Branch) → AllZip BranchUpTo bs bs
branches_up_to [] = tt
branches_up_to (b ∷ bs) = (record { taps = taps_up_to b.taps; law = law_up_to b.law; group = refl; owner = refl }, branches_up_to bs)

pub between_itself : BetweenItself
between_itself network w =
    let p : IsPair network network = record { buses = refl; nodes = refl; branches = branches_up_to network.branches } in
    record { whole = w; from_low = p; to_high = p }
