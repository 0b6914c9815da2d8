-- From held voltages: what leaves a node into a branch of its own is held.
use Rattle.std.proofs.Common.{◌≡◌, ◌∙◌, ℕ, zero, suc, arith, Bool, true, false, List, [], ◌∷◌, refl, sym, subst}
use Rattle.std.specs.Prelude.{Some, Contains, ◌==◌, ◌&&◌, ◌||◌, slice_get, if◌then◌else◌}
use Rattle.std.specs.List.{AllZip}
use Rattle.exact_algebra.specs.Complex.{Complex, complex_numbers, real, complex_scaled}
use Rattle.exact_algebra.proofs.Complexes.{complex_field}
use Rattle.exact_algebra.proofs.Reader.{reads, ring, linear, weigh, join, none_left}
use Rattle.linear_systems.specs.Assembly.{where_equal}
use Rattle.complex_interval.specs.Ends.{Ends, Encloses, range_ends}
use Rattle.complex_interval.specs.Rectangles.{Rectangle, EnclosesComplex, add_rectangles, scale_rectangle}
use Rattle.complex_interval.proofs.RectangleLaws.{add_encloses_rectangle, scale_encloses_rectangle, mul_encloses_rectangle}
use Rattle.complex_interval.proofs.Ranges.{range_encloses}
use Rattle.network_theory.specs.Order.{Order, fraction}
use Rattle.network_theory.specs.Branch.{Tap, Branch}
use Rattle.network_theory.specs.Network.{Network}
use Rattle.network_theory.specs.Live.{Live, HasLiveNode}
use Rattle.network_theory.specs.Between.{TapUpTo, BranchUpTo}
use Rattle.network_theory.specs.State.{drop, leaving_by}
use Rattle.network_theory.specs.Admittance.{IsAdmittance}
use Rattle.network_theory.proofs.Numbers.{R, one_at, where_equal-is, one_at-apart}
use Rattle.plain_elimination.specs.Matrix.{nought_rectangle}
use Rattle.admittance_box.specs.Current.{fold_pairs, tap_voltage, with_tap_voltage, branch_current, with_tap_current, is_at, with_branch}
use Rattle.admittance_box.specs.Places.{place_of}
use Rattle.admittance_box.specs.Steps.{◌>>=◌}
use Rattle.admittance_box.specs.Terminal.{HoldsVoltages}
use Rattle.admittance_box.proofs.HeldEntries.{item_at}
use Rattle.admittance_box.proofs.HeldMatrices.{law_held}
use Rattle.admittance_box.proofs.HeldPairs.{along, scaled-is, tap_holds, plus-none}
use Rattle.admittance_box.proofs.Laws.{nought_held}
use Rattle.admittance_box.proofs.Steps.{bind-some}
open complex_numbers use {◌≈◌, nought, unit, ◌⊕◌, ◌⊗◌, minus}
open complex_field use {same, back, next, add_same}

abbrev pub C : Type 0
C = Complex

pub regroup : (a b c : C) → (a ⊕ b) ⊕ c ≈ a ⊕ (b ⊕ c)
regroup a b c = ring R (a ∷ b ∷ c ∷ []) (search reads depth 40 fits 4000) none_left

pub plain : (a : C) → nought ⊕ a ≈ a
plain a = ring R (a ∷ []) (search reads depth 40 fits 4000) none_left

-- ---- taps at a node
-- c·I counts where the tap is at the node
tap-here : (t : Tap) (node : ℕ) (I : C) → t.node ≡ node → where_equal complex_numbers t.node node (real t.ratio ⊗ I) ≈ real t.ratio ⊗ I
tap-here t node I e = subst (λ k. where_equal complex_numbers t.node k (real t.ratio ⊗ I) ≈ real t.ratio ⊗ I) e (at t.node (real t.ratio ⊗ I))
  where
    at : (k : ℕ) (x : C) → where_equal complex_numbers k k x ≈ x
    at zero x = same x
    at (suc k) x = at k x

tap-apart : (t : Tap) (node : ℕ) (I : C) → ¬ (t.node ≡ node) → where_equal complex_numbers t.node node (real t.ratio ⊗ I) ≈ nought
tap-apart t node I h = go (one_at t.node node) _ _ (where_equal-is t.node node (real t.ratio ⊗ I)) (one_at-apart t.node node h)
  where
    go : (o x w : C) → w ≈ o ⊗ x → o ≈ nought → w ≈ nought
    go o x w p q = linear R (o ∷ x ∷ w ∷ []) (join R (weigh R unit p) (weigh R x q)) (search reads depth 40 fits 4000) none_left

pub is_node : (m n : ℕ) → (m == n) ≡ true → m ≡ n
is_node m n e = grind arith

pub is_other : (m n : ℕ) → (m == n) ≡ false → ¬ (m ≡ n)
is_other m n e = grind arith

-- where no tap of the one network is at the node, what leaves it by the other's is nought
pub leaving-none : (node : ℕ) (I : C) (ts vs : List Tap) → AllZip TapUpTo ts vs → is_at node ts ≡ false → leaving_by vs I node ≈ nought
leaving-none node I [] [] z e = same _
leaving-none node I [] (v ∷ vs) z e = absurd z
leaving-none node I (t ∷ ts) [] z e = absurd z
leaving-none node I (t ∷ ts) (v ∷ vs) z e =
    let here : (t.node == node) ≡ false = left _ _ e in
    let apart : ¬ (v.node ≡ node) = λ q. is_other t.node node here (z.0.node ∙ q) in
    both _ _ (tap-apart v node I apart) (leaving-none node I ts vs z.1 (right _ _ e))
  where
    left : (a b : Bool) → (a || b) ≡ false → a ≡ false
    left a b h = grind arith

    right : (a b : Bool) → (a || b) ≡ false → b ≡ false
    right a b h = grind arith

    both : (a b : C) → a ≈ nought → b ≈ nought → a ⊕ b ≈ nought
    both a b p q = linear R (a ∷ b ∷ []) (join R (weigh R unit p) (weigh R unit q)) (search reads depth 40 fits 4000) none_left

-- and where one is, the other has one there
pub tap_there : (node : ℕ) (ts vs : List Tap) → AllZip TapUpTo ts vs → is_at node ts ≡ true → (v : Tap) × Contains vs v × (v.node ≡ node)
tap_there node [] vs z e = absurd cc
tap_there node (t ∷ ts) [] z e = absurd z
tap_there node (t ∷ ts) (v ∷ vs) z e = go (t.node == node) refl e (λ h. tap_there node ts vs z.1 h)
  where
    go : (b : Bool) → (t.node == node) ≡ b → (b || is_at node ts) ≡ true → (is_at node ts ≡ true → (w : Tap) × Contains vs w × (w.node ≡ node)) → (w : Tap) × Contains (v ∷ vs) w × (w.node ≡ node)
    go true q h more = (v, (0, omega arith, refl), sym z.0.node ∙ is_node t.node node q)
    go false q h more = let (w, k, at) = more h in (w, (suc k.0, omega (arith, k.1), k.2), at)

-- ---- what is held
-- the voltage at a node's place
volts_at : (s : ℕ) (V : ℕ → C) (ordering : List ℕ) (volts : List Rectangle) → HoldsVoltages s ordering volts V → AllZip (λ n v. EnclosesComplex s v (V n)) ordering volts
volts_at s V [] [] h = tt
volts_at s V [] (v ∷ volts) h = absurd h
volts_at s V (n ∷ ordering) [] h = absurd h
volts_at s V (n ∷ ordering) (v ∷ volts) h = (h.0, volts_at s V ordering volts h.1)

pub voltage_at : (s : ℕ) (V : ℕ → C) (ordering : List ℕ) (volts : List Rectangle) (n i : ℕ) (v : Rectangle) → HoldsVoltages s ordering volts V → place_of ordering n ≡ Some i → slice_get volts i ≡ Some v → EnclosesComplex s v (V n)
voltage_at s V ordering volts n i v h p g = item_at (λ m x. EnclosesComplex s x (V m)) n ordering volts i v p g (volts_at s V ordering volts h)

-- what is taken as it is
pub kept : {X : Type 0} (a b : X) → Some a ≡ Some b → a ≡ b
kept a b e = grind arith

module _ (s : ℕ) (ordering : List ℕ) (volts : List Rectangle) (V : ℕ → C) (held : HoldsVoltages s ordering volts V) where
  tap_held : (t u v : Tap) (r : Rectangle) → TapUpTo t v → TapUpTo v u → tap_voltage s ordering volts t u ≡ Some r → EnclosesComplex s r (real v.ratio ⊗ V v.node)
  tap_held t u v r a b e =
      let (tap, e1, n1) = bind-some _ _ r e in
      let (x, e2, e3) = bind-some _ _ r n1 in
      let at = tap_holds s ordering t u v tap a b e1 in
      along s r (complex_scaled (V v.node) v.ratio) (real v.ratio ⊗ V v.node) (scaled-is (V v.node) v.ratio)
      (scale_encloses_rectangle s x r tap.ratio (V v.node) v.ratio (voltage_at s V ordering volts v.node tap.place x held at.place e2) at.ratio e3)

  pub drop_held : (ts us vs : List Tap) → AllZip TapUpTo ts vs → AllZip TapUpTo vs us → (sum r : Rectangle) (z : C) → EnclosesComplex s sum z → fold_pairs (with_tap_voltage s ordering volts) sum ts us ≡ Some r → EnclosesComplex s r (z ⊕ drop V vs)
  drop_held [] us [] a b sum r z h e = subst (λ q. EnclosesComplex s q (z ⊕ nought)) (kept sum r e) (along s sum z (z ⊕ nought) (plus-none z nought (same _)) h)
  drop_held [] us (v ∷ vs) a b sum r z h e = absurd a
  drop_held (t ∷ ts) us [] a b sum r z h e = absurd a
  drop_held (t ∷ ts) [] (v ∷ vs) a b sum r z h e = absurd b
  drop_held (t ∷ ts) (u ∷ us) (v ∷ vs) a b sum r z h e =
      let (after, n1, e3) = bind-some _ _ r e in
      let (more, e1, e2) = bind-some _ _ after n1 in
      let here = tap_held t u v more a.0 b.0 e1 in
      let summed = add_encloses_rectangle s sum more after z (real v.ratio ⊗ V v.node) h here e2 in
      along s r ((z ⊕ real v.ratio ⊗ V v.node) ⊕ drop V vs) (z ⊕ (real v.ratio ⊗ V v.node ⊕ drop V vs)) (regroup z (real v.ratio ⊗ V v.node) (drop V vs))
      (drop_held ts us vs a.1 b.1 after r (z ⊕ real v.ratio ⊗ V v.node) summed e3)

  -- an exact current is that of each admittance at the drop
  abbrev pub IsByAdmittance : Order → Branch → C → Type 0
  IsByAdmittance h b I = (y : C) → IsAdmittance h b.law y → I ≈ y ⊗ drop V b.taps

  pub branch_held : (ends : Ends) (h : Order) → Encloses s ends (fraction h) → (a c b : Branch) → BranchUpTo a b → BranchUpTo b c → (r : Rectangle) (I : C) → IsByAdmittance h b I → branch_current s ends ordering volts a c ≡ Some r → EnclosesComplex s r I
  branch_held ends h ho a c b p q r I by e =
      let (law, e1, n1) = bind-some _ _ r e in
      let (admittance, e2, n2) = bind-some _ _ r n1 in
      let (fall, e3, e4) = bind-some _ _ r n2 in
      let (y, is, has) = law_held s ends h ho a.law c.law b.law law admittance p.law q.law e1 e2 in
      let d = drop_held a.taps c.taps b.taps p.taps q.taps nought_rectangle fall nought (nought_held s) e3 in
      along s r (y ⊗ (nought ⊕ drop V b.taps)) I (turn y (drop V b.taps) I (by y is)) (mul_encloses_rectangle s admittance fall r y (nought ⊕ drop V b.taps) has d e4)
    where
      turn : (y d i : C) → i ≈ y ⊗ d → y ⊗ (nought ⊕ d) ≈ i
      turn y d i f = linear R (y ∷ d ∷ i ∷ []) (weigh R (minus unit) f) (search reads depth 40 fits 4000) none_left

-- c times a current, for a tap that is at the node
tap_current_held : (s node : ℕ) (current : Rectangle) (I : C) → EnclosesComplex s current I → (t u v : Tap) → TapUpTo t v → TapUpTo v u → (sum r : Rectangle) (z : C) → EnclosesComplex s sum z
    → with_tap_current s node current sum t u ≡ Some r → EnclosesComplex s r (z ⊕ where_equal complex_numbers v.node node (real v.ratio ⊗ I))
tap_current_held s node current I k t u v a b sum r z h e = go (t.node == node) refl e
  where
    go : (b' : Bool) → (t.node == node) ≡ b' → (if b' then range_ends s t.ratio u.ratio >>= (λ c. scale_rectangle s current c >>= add_rectangles sum) else Some sum) ≡ Some r
        → EnclosesComplex s r (z ⊕ where_equal complex_numbers v.node node (real v.ratio ⊗ I))
    go true q f =
        let (ratio, e1, n1) = bind-some _ _ r f in
        let (more, e2, e3) = bind-some _ _ r n1 in
        let scaled = scale_encloses_rectangle s current more ratio I v.ratio k (range_encloses s t.ratio u.ratio v.ratio a.ratio b.ratio ratio e1) e2 in
        let here = along s more (complex_scaled I v.ratio) (where_equal complex_numbers v.node node (real v.ratio ⊗ I)) (next (scaled-is I v.ratio) (back (tap-here v node I (sym a.node ∙ is_node t.node node q)))) scaled in
        add_encloses_rectangle s sum more r z (where_equal complex_numbers v.node node (real v.ratio ⊗ I)) h here e3
    go false q f =
        subst (λ x. EnclosesComplex s x (z ⊕ where_equal complex_numbers v.node node (real v.ratio ⊗ I))) (kept sum r f)
        (along s sum z (z ⊕ where_equal complex_numbers v.node node (real v.ratio ⊗ I)) (plus-none z (where_equal complex_numbers v.node node (real v.ratio ⊗ I)) (tap-apart v node I (λ i. is_other t.node node q (a.node ∙ i)))) h)

pub leaving_held : (s node : ℕ) (current : Rectangle) (I : C) → EnclosesComplex s current I → (ts us vs : List Tap) → AllZip TapUpTo ts vs → AllZip TapUpTo vs us → (sum r : Rectangle) (z : C) → EnclosesComplex s sum z
    → fold_pairs (with_tap_current s node current) sum ts us ≡ Some r → EnclosesComplex s r (z ⊕ leaving_by vs I node)
leaving_held s node current I k [] us [] a b sum r z h e = subst (λ q. EnclosesComplex s q (z ⊕ nought)) (kept sum r e) (along s sum z (z ⊕ nought) (plus-none z nought (same _)) h)
leaving_held s node current I k [] us (v ∷ vs) a b sum r z h e = absurd a
leaving_held s node current I k (t ∷ ts) us [] a b sum r z h e = absurd a
leaving_held s node current I k (t ∷ ts) [] (v ∷ vs) a b sum r z h e = absurd b
leaving_held s node current I k (t ∷ ts) (u ∷ us) (v ∷ vs) a b sum r z h e =
    let (after, e1, e2) = bind-some _ _ r e in
    let at = where_equal complex_numbers v.node node (real v.ratio ⊗ I) in
    let one = tap_current_held s node current I k t u v a.0 b.0 sum after z h e1 in
    along s r ((z ⊕ at) ⊕ leaving_by vs I node) (z ⊕ (at ⊕ leaving_by vs I node)) (regroup z at (leaving_by vs I node)) (leaving_held s node current I k ts us vs a.1 b.1 after r (z ⊕ at) one e2)

-- ---- what leaves the node into a branch, where it is of the owner
abbrev pub owned : ℕ → ℕ → Branch → C → C
owned owner node b I = if b.owner == owner then leaving_by b.taps I node else nought

pub owned-none : (owner node : ℕ) (b : Branch) (I : C) → (b.owner ≡ owner → leaving_by b.taps I node ≈ nought) → owned owner node b I ≈ nought
owned-none owner node b I f = go (b.owner == owner) refl
  where
    go : (t : Bool) → (b.owner == owner) ≡ t → (if t then leaving_by b.taps I node else nought) ≈ nought
    go true q = f (is_node b.owner owner q)
    go false q = same _

pub owned-all : (owner node : ℕ) (b : Branch) (I : C) → b.owner ≡ owner → owned owner node b I ≈ leaving_by b.taps I node
owned-all owner node b I e = go (b.owner == owner) refl
  where
    go : (t : Bool) → (b.owner == owner) ≡ t → (if t then leaving_by b.taps I node else nought) ≈ leaving_by b.taps I node
    go true q = same _
    go false q = absurd (is_other b.owner owner q e)

-- a sum that stays
pub stays : (s : ℕ) (sum r : Rectangle) (z w : C) → w ≈ nought → EnclosesComplex s sum z → Some sum ≡ Some r → EnclosesComplex s r (z ⊕ w)
stays s sum r z w n k f = subst (λ x. EnclosesComplex s x (z ⊕ w)) (kept sum r f) (along s sum z (z ⊕ w) (plus-none z w n) k)

-- a tap of the one network at a live node is a live node of the branch between
pub live_at : (network : Network) (node : ℕ) → Live network node → (l b : Branch) → BranchUpTo l b → is_at node l.taps ≡ true → HasLiveNode network b
live_at network node live l b p j =
    let (tap, has, at) = tap_there node l.taps b.taps p.taps j in
    record { tap = tap; has = has; live = subst (Live network) (sym at) live }

-- a branch of its own
pub one_held : (s : ℕ) (ordering : List ℕ) (volts : List Rectangle) (V : ℕ → C) (held : HoldsVoltages s ordering volts V) (ends : Ends) (h : Order) → Encloses s ends (fraction h) → (network : Network) (owner node : ℕ) → Live network node
    → (a c b : Branch) → BranchUpTo a b → BranchUpTo b c → (I : C) → (HasLiveNode network b → IsByAdmittance s ordering volts V held h b I) → (sum r : Rectangle) (z : C) → EnclosesComplex s sum z
    → with_branch s ends ordering volts owner node sum a c ≡ Some r → EnclosesComplex s r (z ⊕ owned owner node b I)
one_held s ordering volts V held ends h ho network owner node live a c b p q I by sum r z k e = go (a.owner == owner) (is_at node a.taps) refl refl e
  where
    go : (t u : Bool) → (a.owner == owner) ≡ t → is_at node a.taps ≡ u
        → (if t && u then branch_current s ends ordering volts a c >>= (λ current. fold_pairs (with_tap_current s node current) sum a.taps c.taps) else Some sum) ≡ Some r → EnclosesComplex s r (z ⊕ owned owner node b I)
    go true true i j f =
        let (current, e1, e2) = bind-some _ _ r f in
        let own : b.owner ≡ owner = sym p.owner ∙ is_node a.owner owner i in
        let now = branch_held s ordering volts V held ends h ho a c b p q current I (by (live_at network node live a b p j)) e1 in
        along s r (z ⊕ leaving_by b.taps I node) (z ⊕ owned owner node b I) (add_same (same z) (back (owned-all owner node b I own))) (leaving_held s node current I now a.taps c.taps b.taps p.taps q.taps sum r z k e2)
    go true false i j f = stays s sum r z (owned owner node b I) (owned-none owner node b I (λ o. leaving-none node I a.taps b.taps p.taps j)) k f
    go false u i j f = stays s sum r z (owned owner node b I) (owned-none owner node b I (λ o. absurd (is_other a.owner owner i (p.owner ∙ o)))) k f
