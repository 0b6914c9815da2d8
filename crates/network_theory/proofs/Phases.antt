-- Three coupled phases, and a ratio.
use Rattle.std.proofs.Common.{◌≡◌, ℕ, zero, suc, ◌<◌, pos, negsuc, List, [], ◌∷◌, refl, subst, arith, length, get_or}
use Rattle.std.specs.Prelude.{Contains, slice_get, Some}
use Rattle.std.specs.List.{AllByRecursion}
use Rattle.exact_algebra.specs.Ratio.{whole, den}
use Rattle.exact_algebra.specs.Complex.{Complex, complex_numbers, complex_whole, complex_opposite, real_part, imaginary_part, real}
use Rattle.exact_algebra.proofs.Complexes.{complex_field}
use Rattle.exact_algebra.proofs.Reader.{reads, ring, linear, weigh, join, none_left}
use Rattle.linear_systems.specs.Linear.{dot}
use Rattle.network_theory.specs.Branch.{Law, Series, Coupled3, Coupling, Branch}
use Rattle.network_theory.specs.Network.{Network}
use Rattle.network_theory.specs.Live.{Live, grounded, joined, Carries, itself}
use Rattle.network_theory.specs.Order.{Order}
use Rattle.network_theory.specs.Impedance.{series_impedance, group_row}
use Rattle.network_theory.specs.State.{State, KeepsLaw, IsExactState, IsZeroState, drop, leaving}
use Rattle.network_theory.specs.DrivingPoint.{HasOnlyZeroState, no_injection, unit_at}
use Rattle.network_theory.specs.Laws.{LiveIsNode}
use Rattle.network_theory.specs.Phases.{phase_to_ground, three_phases, CoupledPhases, behind_ratio, BehindRatio}
use Rattle.network_theory.proofs.Numbers.{R, one_at, one_at-apart}
use Rattle.network_theory.proofs.OneNode.{real-unit}
open complex_numbers use {◌≈◌, nought, unit, ◌⊕◌, ◌⊗◌, minus}
open complex_field use {same, back, next, add_same, mul_same}

abbrev C : Type 0
C = Complex

all_contains : {X : Type 0} (P : X → Type 0) (xs : List X) → AllByRecursion P xs → (x : X) → Contains xs x → P x
all_contains P [] a x k = absurd (omega (arith, k.1))
all_contains P (y ∷ xs) a x k = go k.0 k.1 k.2 (λ i l e. all_contains P xs a.1 x (i, l, e))
  where
    go : (i : ℕ) → i < suc (length xs) → get_or (y ∷ xs) i x ≡ x → ((i : ℕ) → i < length xs → get_or xs i x ≡ x → P x) → P x
    go zero l e more = subst P e a.0
    go (suc i) l e more = more i (omega arith) e

-- live nodes are below what all taps' nodes are below
live_below : (network : Network) (m : ℕ) → AllByRecursion (λ b. AllByRecursion (λ t. t.node < m) b.taps) network.branches → (n : ℕ) → Live network n → n < m
live_below network m a n (grounded b t c e) =
    (subst (λ ts. AllByRecursion (λ u. u.node < m) ts) e (all_contains (λ o. AllByRecursion (λ u. u.node < m) o.taps) network.branches a b c)).0
live_below network m a n (joined b t u c p q l) = all_contains (λ v. v.node < m) b.taps (all_contains (λ o. AllByRecursion (λ v. v.node < m) o.taps) network.branches a b c) u q

pub live_is_node : LiveIsNode
live_is_node network w n l = live_below network network.nodes w.taps n l

some_same : {X : Type 0} {x y : X} → Some x ≡ Some y → x ≡ y
some_same e = cc

one_unit : (u : C) → real (whole (pos 1)) ⊗ u ⊕ nought ≈ u
one_unit u = linear R (real (whole (pos 1)) ∷ u ∷ []) (weigh R u real-unit) (search reads depth 40 fits 4000) none_left

first_column : (s m m' : C) → s ⊗ unit ⊕ (m ⊗ nought ⊕ (m' ⊗ nought ⊕ nought)) ≈ s
first_column s m m' = ring R (s ∷ m ∷ m' ∷ []) (search reads depth 40 fits 4000) none_left

second_column : (m s m' : C) → m ⊗ nought ⊕ (s ⊗ unit ⊕ (m' ⊗ nought ⊕ nought)) ≈ s
second_column m s m' = ring R (s ∷ m ∷ m' ∷ []) (search reads depth 40 fits 4000) none_left

third_column : (m m' s : C) → m ⊗ nought ⊕ (m' ⊗ nought ⊕ (s ⊗ unit ⊕ nought)) ≈ s
third_column m m' s = ring R (s ∷ m ∷ m' ∷ []) (search reads depth 40 fits 4000) none_left

zero_row : (a b c x y z : C) → x ≈ nought → y ≈ nought → z ≈ nought → a ⊗ x ⊕ (b ⊗ y ⊕ (c ⊗ z ⊕ nought)) ≈ nought
zero_row a b c x y z p q r = linear R (a ∷ b ∷ c ∷ x ∷ y ∷ z ∷ []) (join R (weigh R a p) (join R (weigh R b q) (weigh R c r))) (search reads depth 40 fits 4000) none_left

-- the current 1 into phase p, where its column of Z is v0, v1, v2
column : (h : Order) (values : Coupling) (p : ℕ) (v0 v1 v2 : C) → p < 3 → Live (three_phases values) p
    → dot complex_numbers (group_row values h 0) (one_at p 0 ∷ one_at p 1 ∷ one_at p 2 ∷ []) ≈ v0
    → dot complex_numbers (group_row values h 1) (one_at p 0 ∷ one_at p 1 ∷ one_at p 2 ∷ []) ≈ v1
    → dot complex_numbers (group_row values h 2) (one_at p 0 ∷ one_at p 1 ∷ one_at p 2 ∷ []) ≈ v2
    → (V : ℕ → C) × (V 0 ≈ v0) × (V 1 ≈ v1) × (V 2 ≈ v2) × IsExactState (three_phases values) h (unit_at p) (record { voltage = V; current = λ i. one_at p i }) × HasOnlyZeroState (three_phases values) h
column h values p v0 v1 v2 q lp z0 z1 z2 = (V, same _, same _, same _, record { dead = dead; laws = λ i b e c. laws i b e; sums = λ n l. sums n }, record { zero = zero_state })
  where
    net : Network
    net = three_phases values

    live : (g : ℕ) → Contains net.branches (phase_to_ground g values) → Live net g
    live g k = grounded (phase_to_ground g values) (record { node = g; ratio = whole (pos 1) }) k refl

    V : ℕ → C
    V zero = v0
    V (suc zero) = v1
    V (suc (suc zero)) = v2
    V (suc (suc (suc n))) = nought

    dead : (n : ℕ) → ¬ Live net n → V n ≈ nought
    dead zero n = absurd (n (live 0 (0, omega arith, refl)))
    dead (suc zero) n = absurd (n (live 1 (1, omega arith, refl)))
    dead (suc (suc zero)) n = absurd (n (live 2 (2, omega arith, refl)))
    dead (suc (suc (suc n))) l = same _

    at_branch : (g i : ℕ) (b : Branch) → phase_to_ground g values ≡ b → KeepsLaw (Coupled3 g values) h (λ i. one_at p i) i (drop V (phase_to_ground g values).taps) → KeepsLaw b.law h (λ i. one_at p i) i (drop V b.taps)
    at_branch g i b e k = subst (λ o. KeepsLaw o.law h (λ i. one_at p i) i (drop V o.taps)) e k

    laws : (i : ℕ) (b : Branch) → slice_get net.branches i ≡ Some b → KeepsLaw b.law h (λ i. one_at p i) i (drop V b.taps)
    laws zero b e = at_branch 0 0 b (some_same e) (next z0 (back (one_unit _)))
    laws (suc zero) b e = at_branch 1 1 b (some_same e) (next z1 (back (one_unit _)))
    laws (suc (suc zero)) b e = at_branch 2 2 b (some_same e) (next z2 (back (one_unit _)))
    laws (suc (suc (suc i))) b e = absurd cc

    r1 : C
    r1 = real (whole (pos 1))

    sums : (n : ℕ) → leaving net.branches (λ i. one_at p i) n ≈ unit_at p n
    sums zero = linear R (r1 ∷ one_at p 0 ∷ []) (weigh R (one_at p 0) real-unit) (search reads depth 40 fits 4000) none_left
    sums (suc zero) = linear R (r1 ∷ one_at p 1 ∷ []) (weigh R (one_at p 1) real-unit) (search reads depth 40 fits 4000) none_left
    sums (suc (suc zero)) = linear R (r1 ∷ one_at p 2 ∷ []) (weigh R (one_at p 2) real-unit) (search reads depth 40 fits 4000) none_left
    sums (suc (suc (suc n))) = next (ring R [] (search reads depth 40 fits 4000) none_left) (back (one_at-apart p (suc (suc (suc n))) (λ e. let f : suc (suc (suc n)) < 3 = subst (λ j. j < 3) e q in absurd (omega arith))))

    taps_low : AllByRecursion (λ b. AllByRecursion (λ t. t.node < 3) b.taps) net.branches
    taps_low = ((omega arith, tt), ((omega arith, tt), ((omega arith, tt), tt)))

    zero_state : (s : State) → IsExactState net h no_injection s → IsZeroState net s
    zero_state s x = record { voltages = volts; currents = λ i b e c. currents i b e }
      where
        I0 : s.current 0 ≈ nought
        I0 = linear R (r1 ∷ s.current 0 ∷ []) (join R (weigh R unit (x.sums 0 (live 0 (0, omega arith, refl)))) (weigh R (minus (s.current 0)) real-unit)) (search reads depth 40 fits 4000) none_left

        I1 : s.current 1 ≈ nought
        I1 = linear R (r1 ∷ s.current 1 ∷ []) (join R (weigh R unit (x.sums 1 (live 1 (1, omega arith, refl)))) (weigh R (minus (s.current 1)) real-unit)) (search reads depth 40 fits 4000) none_left

        I2 : s.current 2 ≈ nought
        I2 = linear R (r1 ∷ s.current 2 ∷ []) (join R (weigh R unit (x.sums 2 (live 2 (2, omega arith, refl)))) (weigh R (minus (s.current 2)) real-unit)) (search reads depth 40 fits 4000) none_left

        carries : (g : ℕ) → Contains net.branches (phase_to_ground g values) → Carries net (phase_to_ground g values)
        carries g k = itself (record { tap = record { node = g; ratio = whole (pos 1) }; has = (0, omega arith, refl); live = live g k })

        volts : (n : ℕ) → Live net n → s.voltage n ≈ nought
        volts zero l = next (back (one_unit (s.voltage 0))) (next (back (x.laws 0 (phase_to_ground 0 values) refl (carries 0 (0, omega arith, refl)))) (zero_row _ _ _ _ _ _ I0 I1 I2))
        volts (suc zero) l = next (back (one_unit (s.voltage 1))) (next (back (x.laws 1 (phase_to_ground 1 values) refl (carries 1 (1, omega arith, refl)))) (zero_row _ _ _ _ _ _ I0 I1 I2))
        volts (suc (suc zero)) l = next (back (one_unit (s.voltage 2))) (next (back (x.laws 2 (phase_to_ground 2 values) refl (carries 2 (2, omega arith, refl)))) (zero_row _ _ _ _ _ _ I0 I1 I2))
        volts (suc (suc (suc n))) l = absurd (let q : suc (suc (suc n)) < 3 = live_below net 3 taps_low (suc (suc (suc n))) l in omega arith)

        currents : (i : ℕ) (b : Branch) → slice_get net.branches i ≡ Some b → s.current i ≈ nought
        currents zero b e = I0
        currents (suc zero) b e = I1
        currents (suc (suc zero)) b e = I2
        currents (suc (suc (suc i))) b e = absurd cc

pub coupled_phases : CoupledPhases
coupled_phases h values =
    let a = column h values 0 _ _ _ (omega arith) (live 0 (0, omega arith, refl)) (first_column _ _ _) (first_column _ _ _) (first_column _ _ _) in
    let b = column h values 1 _ _ _ (omega arith) (live 1 (1, omega arith, refl)) (second_column _ _ _) (second_column _ _ _) (second_column _ _ _) in
    let c = column h values 2 _ _ _ (omega arith) (live 2 (2, omega arith, refl)) (third_column _ _ _) (third_column _ _ _) (third_column _ _ _) in
    record {
      a = record { live = live 0 (0, omega arith, refl); state = record { voltage = a.0; current = λ i. one_at 0 i }; exact = a.4; at_node = a.1; only_zero = a.5 };
      a_b = a.2;
      a_c = a.3;
      b = record { live = live 1 (1, omega arith, refl); state = record { voltage = b.0; current = λ i. one_at 1 i }; exact = b.4; at_node = b.2; only_zero = b.5 };
      b_a = b.1;
      b_c = b.3;
      c = record { live = live 2 (2, omega arith, refl); state = record { voltage = c.0; current = λ i. one_at 2 i }; exact = c.4; at_node = c.3; only_zero = c.5 };
      c_a = c.1;
      c_b = c.2;
    }
  where
    live : (g : ℕ) → Contains (three_phases values).branches (phase_to_ground g values) → Live (three_phases values) g
    live g k = grounded (phase_to_ground g values) (record { node = g; ratio = whole (pos 1) }) k refl

minus_unit : real (whole (negsuc 0)) ≈ minus unit
unfolding real whole complex_whole complex_opposite real_part imaginary_part den
minus_unit = record { re = record { cross = refl }; im = record { cross = refl } }

pub behind_a_ratio : BehindRatio
behind_a_ratio h r k m x xc r' k' m' x' xc' t = record {
  live = live1;
  state = record { voltage = V; current = I };
  exact = record { dead = dead; laws = λ i b e c. laws i b e; sums = λ n l. sums n };
  at_node = same _;
  only_zero = record { zero = zero_state };
}
  where
    source : Law
    source = Series r k m x xc

    leakage : Law
    leakage = Series r' k' m' x' xc'

    net : Network
    net = behind_ratio source leakage t

    first : Branch
    first = record { taps = record { node = 0; ratio = whole (pos 1) } ∷ []; law = source; group = 0; owner = 1 }

    second : Branch
    second = record { taps = record { node = 0; ratio = t } ∷ record { node = 1; ratio = whole (negsuc 0) } ∷ []; law = leakage; group = 0; owner = 2 }

    live0 : Live net 0
    live0 = grounded first (record { node = 0; ratio = whole (pos 1) }) (0, omega arith, refl) refl

    live1 : Live net 1
    live1 = joined second (record { node = 0; ratio = t }) (record { node = 1; ratio = whole (negsuc 0) }) (1, omega arith, refl) (0, omega arith, refl) (1, omega arith, refl) live0

    Z : C
    Z = series_impedance r k m x xc h

    Z' : C
    Z' = series_impedance r' k' m' x' xc' h

    c : C
    c = real t

    r1 : C
    r1 = real (whole (pos 1))

    n1 : C
    n1 = real (whole (negsuc 0))

    V : ℕ → C
    V zero = c ⊗ Z
    V (suc zero) = Z' ⊕ c ⊗ (c ⊗ Z)
    V (suc (suc n)) = nought

    I : ℕ → C
    I zero = c
    I (suc i) = minus unit

    dead : (n : ℕ) → ¬ Live net n → V n ≈ nought
    dead zero n = absurd (n live0)
    dead (suc zero) n = absurd (n live1)
    dead (suc (suc n)) l = same _

    at_branch : (i : ℕ) (a b : Branch) → a ≡ b → KeepsLaw a.law h I i (drop V a.taps) → KeepsLaw b.law h I i (drop V b.taps)
    at_branch i a b e q = subst (λ o. KeepsLaw o.law h I i (drop V o.taps)) e q

    laws : (i : ℕ) (b : Branch) → slice_get net.branches i ≡ Some b → KeepsLaw b.law h I i (drop V b.taps)
    laws zero b e = at_branch 0 first b (some_same e) (linear R (Z ∷ c ∷ r1 ∷ []) (weigh R (minus (c ⊗ Z)) real-unit) (search reads depth 40 fits 4000) none_left)
    laws (suc zero) b e = at_branch 1 second b (some_same e) (linear R (Z ∷ Z' ∷ c ∷ n1 ∷ []) (weigh R (minus (Z' ⊕ c ⊗ (c ⊗ Z))) minus_unit) (search reads depth 40 fits 4000) none_left)
    laws (suc (suc i)) b e = absurd cc

    sums : (n : ℕ) → leaving net.branches I n ≈ unit_at 1 n
    sums zero = linear R (r1 ∷ c ∷ []) (weigh R c real-unit) (search reads depth 40 fits 4000) none_left
    sums (suc zero) = linear R (n1 ∷ []) (weigh R (minus unit) minus_unit) (search reads depth 40 fits 4000) none_left
    sums (suc (suc n)) = ring R [] (search reads depth 40 fits 4000) none_left

    taps_low : AllByRecursion (λ b. AllByRecursion (λ t. t.node < 2) b.taps) net.branches
    taps_low = ((omega arith, tt), ((omega arith, (omega arith, tt)), tt))

    zero_state : (s : State) → IsExactState net h no_injection s → IsZeroState net s
    zero_state s w = record { voltages = volts; currents = λ i b e q. currents i b e }
      where
        i : C
        i = s.current 0

        j : C
        j = s.current 1

        u : C
        u = s.voltage 0

        v : C
        v = s.voltage 1

        J0 : j ≈ nought
        J0 = linear R (n1 ∷ j ∷ []) (join R (weigh R (minus unit) (w.sums 1 live1)) (weigh R j minus_unit)) (search reads depth 40 fits 4000) none_left

        I0 : i ≈ nought
        I0 = linear R (r1 ∷ c ∷ i ∷ j ∷ []) (join R (weigh R unit (w.sums 0 live0)) (join R (weigh R (minus i) real-unit) (weigh R (minus c) J0))) (search reads depth 40 fits 4000) none_left

        U0 : u ≈ nought
        U0 = linear R (r1 ∷ Z ∷ i ∷ u ∷ []) (join R (weigh R (minus unit) (w.laws 0 first refl (itself (record { tap = record { node = 0; ratio = whole (pos 1) }; has = (0, omega arith, refl); live = live0 })))) (join R (weigh R (minus u) real-unit) (weigh R Z I0))) (search reads depth 40 fits 4000) none_left

        V0 : v ≈ nought
        V0 = linear R (n1 ∷ c ∷ Z' ∷ j ∷ u ∷ v ∷ []) (join R (weigh R unit (w.laws 1 second refl (itself (record { tap = record { node = 0; ratio = t }; has = (0, omega arith, refl); live = live0 })))) (join R (weigh R v minus_unit) (join R (weigh R (minus Z') J0) (weigh R c U0)))) (search reads depth 40 fits 4000) none_left

        volts : (n : ℕ) → Live net n → s.voltage n ≈ nought
        volts zero l = U0
        volts (suc zero) l = V0
        volts (suc (suc n)) l = absurd (let q : suc (suc n) < 2 = live_below net 2 taps_low (suc (suc n)) l in omega arith)

        currents : (n : ℕ) (b : Branch) → slice_get net.branches n ≡ Some b → s.current n ≈ nought
        currents zero b e = I0
        currents (suc zero) b e = J0
        currents (suc (suc n)) b e = absurd cc
