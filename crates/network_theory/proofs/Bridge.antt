-- Exact states are the solutions of the nodal equations.
use Rattle.std.proofs.Common.{◌≡◌, ◌≢◌, ℕ, zero, suc, ◌+◌, ◌<◌, List, [], ◌∷◌, map, ap, refl, subst, sym, arith, length, get_or, inl, inr}
use Rattle.std.specs.Prelude.{Contains, slice_get, Some}
use Rattle.std.specs.List.{AllZip, AllByRecursion}
use Rattle.exact_algebra.specs.Complex.{Complex, complex_numbers}
use Rattle.exact_algebra.proofs.Complexes.{complex_field}
use Rattle.exact_algebra.proofs.Reader.{reads, linear, weigh, join, none_left}
use Rattle.linear_systems.specs.Linear.{dot, Solves}
use Rattle.network_theory.specs.Order.{Order}
use Rattle.network_theory.specs.Branch.{Tap, Branch}
use Rattle.network_theory.specs.Network.{Network}
use Rattle.network_theory.specs.Live.{Live, Carries, itself}
use Rattle.network_theory.specs.State.{State, KeepsLaw, drop, leaving, IsExactState}
use Rattle.network_theory.specs.Admittance.{Part, flatten}
use Rattle.network_theory.specs.Nodal.{IsDistinct, IsNodalSystem, nodal_entry}
use Rattle.network_theory.proofs.Numbers.{R, one_at, one_at-same, one_at-apart, same_node}
use Rattle.network_theory.proofs.Carried.{carried, carried-along, row-carried, pick, pick-one, pick-zero, spread-drop, spread, IsAmong}
use Rattle.network_theory.specs.Current.{current_of}
use Rattle.network_theory.proofs.Currents.{leaving-current_of, leaving-along, flow, kept}
open complex_numbers use {◌≈◌, nought, unit, ◌⊕◌, ◌⊗◌, minus}
open complex_field use {same, back, next, add_same, mul_same, minus_same}

abbrev C : Type 0
C = Complex

-- members of a list of nodes
pub among_contains : (m : ℕ) (ordering : List ℕ) → IsAmong m ordering → Contains ordering m
among_contains m [] i = absurd i
among_contains m (n ∷ ordering) (inl e) = (0, omega arith, sym e)
among_contains m (n ∷ ordering) (inr i) = let k = among_contains m ordering i in (suc k.0, omega (arith, k.1), k.2)

contains_go : (m n : ℕ) (ordering : List ℕ) → ((i : ℕ) → i < length ordering → get_or ordering i m ≡ m → IsAmong m ordering) → (i : ℕ) → i < suc (length ordering) → get_or (n ∷ ordering) i m ≡ m → IsAmong m (n ∷ ordering)
contains_go m n ordering more zero l e = inl (sym e)
contains_go m n ordering more (suc i) l e = inr (more i (omega arith) e)

pub contains_among : (m : ℕ) (ordering : List ℕ) → Contains ordering m → IsAmong m ordering
contains_among m [] k = absurd (omega (arith, k.1))
contains_among m (n ∷ ordering) k = contains_go m n ordering (λ i l e. contains_among m ordering (i, l, e)) k.0 k.1 k.2

pub is_among : (m : ℕ) (ordering : List ℕ) → Dec (IsAmong m ordering)
is_among m [] = no (λ i. i)
is_among m (n ∷ ordering) = elim (same_node m n) [ yes e ↦ yes (inl e) | no q ↦ elim (is_among m ordering) [ yes i ↦ yes (inr i) | no r ↦ no (λ i. elim i [ inl e ↦ q e | inr j ↦ r j ]) ] ]

-- voltages from a solution
abbrev pub volt : List ℕ → List C → ℕ → C
volt [] x n = nought
volt (m ∷ ordering) [] n = nought
volt (m ∷ ordering) (v ∷ x) n = one_at m n ⊗ v ⊕ volt ordering x n

pub volt-none : (ordering : List ℕ) (x : List C) (n : ℕ) → ¬ IsAmong n ordering → volt ordering x n ≈ nought
volt-none [] x n h = same _
volt-none (m ∷ ordering) [] n h = same _
volt-none (m ∷ ordering) (v ∷ x) n h =
    linear R (one_at m n ∷ v ∷ volt ordering x n ∷ []) (join R (weigh R v (one_at-apart m n (λ e. h (inl (sym e))))) (weigh R unit (volt-none ordering x n (λ i. h (inr i))))) (search reads depth 40 fits 4000) none_left

pub not_among : (m : ℕ) (ordering : List ℕ) → AllByRecursion (λ k. m ≢ k) ordering → ¬ IsAmong m ordering
not_among m [] h i = i
not_among m (k ∷ ordering) h (inl e) = h.0 e
not_among m (k ∷ ordering) h (inr i) = not_among m ordering h.1 i

volt-later : (m : ℕ) (v : C) (ordering : List ℕ) (x : List C) (ks : List ℕ) (ys : List C) → AllByRecursion (λ k. m ≢ k) ks → AllZip ◌≈◌ (map (volt ordering x) ks) ys → AllZip ◌≈◌ (map (volt (m ∷ ordering) (v ∷ x)) ks) ys
volt-later m v ordering x [] [] a h = h
volt-later m v ordering x [] (y ∷ ys) a h = absurd h
volt-later m v ordering x (k ∷ ks) [] a h = absurd h
volt-later m v ordering x (k ∷ ks) (y ∷ ys) a h = (
  linear R (one_at m k ∷ v ∷ volt ordering x k ∷ y ∷ []) (join R (weigh R v (one_at-apart m k a.0)) (weigh R unit h.0)) (search reads depth 40 fits 4000) none_left,
  volt-later m v ordering x ks ys a.1 h.1,
)

pub volt-map : (ordering : List ℕ) (x : List C) → IsDistinct ordering → length x ≡ length ordering → AllZip ◌≈◌ (map (volt ordering x) ordering) x
volt-map [] [] d e = tt
volt-map [] (v ∷ x) d e = absurd (omega arith)
volt-map (m ∷ ordering) [] d e = absurd (omega arith)
volt-map (m ∷ ordering) (v ∷ x) d e = (
  linear R (one_at m m ∷ v ∷ volt ordering x m ∷ []) (join R (weigh R v (one_at-same m)) (weigh R unit (volt-none ordering x m (not_among m ordering d.0)))) (search reads depth 40 fits 4000) none_left,
  volt-later m v ordering x ordering x d.0 (volt-map ordering x d.1 (omega arith)),
)

-- the nodal matrix is square
pub length-map : {X Y : Type 0} (g : X → Y) (xs : List X) → length (map g xs) ≡ length xs
length-map g [] = refl
length-map g (x ∷ xs) = ap suc (length-map g xs)

pub drop-zero : (V : ℕ → C) → ((n : ℕ) → V n ≈ nought) → (taps : List Tap) → drop V taps ≈ nought
drop-zero V h [] = same _
drop-zero V h (t ∷ taps) = step _ _ _ (h t.node) (drop-zero V h taps)
  where
    step : (c v d : C) → v ≈ nought → d ≈ nought → c ⊗ v ⊕ d ≈ nought
    step c v d p q = linear R (c ∷ v ∷ d ∷ []) (join R (weigh R c p) (weigh R unit q)) (search reads depth 40 fits 4000) none_left

module _ (network : Network) (h : Order) (parts : List Part) (ordering : List ℕ) (rows : List (List C)) (S : IsNodalSystem network h parts ordering rows) where
  live_among : (n : ℕ) → Live network n → IsAmong n ordering
  live_among n l = contains_among n ordering ((S.listed.live n).0 l)

  among_live : (n : ℕ) → IsAmong n ordering → Live network n
  among_live n i = (S.listed.live n).1 (among_contains n ordering i)

  pub is_live : (n : ℕ) → Dec (Live network n)
  is_live n = elim (is_among n ordering) [ yes i ↦ yes (among_live n i) | no q ↦ no (λ l. q (live_among n l)) ]

  abbrev pub IsDead : (ℕ → C) → Type 0
  IsDead V = (n : ℕ) → ¬ Live network n → V n ≈ nought

  abbrev pub drops : (ℕ → C) → Branch → C
  drops V b = drop V b.taps

  picks : (V : ℕ → C) → IsDead V → (m : ℕ) → pick m V ordering ≈ V m
  picks V d m = elim (is_among m ordering) [
    | yes i ↦ pick-one m V ordering S.listed.distinct i
    | no q ↦ let z = d m (λ l. q (live_among m l)) in next (pick-zero m V ordering z) (back z)
  ]

  row-drops : (V : ℕ → C) → IsDead V → (n : ℕ) (row : List C) → AllZip (λ n' entry. entry ≈ nodal_entry parts n n') ordering row → dot complex_numbers row (map V ordering) ≈ carried parts (drops V) n
  row-drops V d n row e = next (row-carried parts n V ordering row e) (carried-along parts (λ b. spread b.taps V ordering) (drops V) n (λ b. back (spread-drop V ordering (picks V d) b.taps)))

  inside : (b : Branch) → Contains (flatten parts) b → Contains network.branches b
  inside b = subst (λ bs. Contains bs b) (sym S.admitted.all)

  -- the currents of a state are those of the admittances
  pub state-current : (J : ℕ → C) (s : State) → IsExactState network h J s → (i : ℕ) (b : Branch) → slice_get network.branches i ≡ Some b → Carries network b → s.current i ≈ current_of parts (drops s.voltage) i
  state-current J s x i b e c =
      subst (λ k. s.current k ≈ current_of parts (drops s.voltage) i) (plain i)
      (flow network h s.current (drops s.voltage) parts 0 S.admitted.each inside
      (λ j b' e' c'. subst (λ k. KeepsLaw b'.law h s.current k (drops s.voltage b')) (sym (plain j)) (x.laws j b' (subst (λ bs. slice_get bs j ≡ Some b') (sym S.admitted.all) e') c'))
      i b (subst (λ bs. slice_get bs i ≡ Some b) S.admitted.all e) c)
    where
      plain : (j : ℕ) → 0 + j ≡ j
      plain j = omega arith

  get-contains : {X : Type 0} (xs : List X) (i : ℕ) (x : X) → slice_get xs i ≡ Some x → Contains xs x
  get-contains [] i x e = absurd cc
  get-contains (y ∷ xs) zero x e = (0, omega arith, cc)
  get-contains (y ∷ xs) (suc i) x e = let k = get-contains xs i x e in (suc k.0, omega (arith, k.1), k.2)

  carries : (n : ℕ) → Live network n → (b : Branch) (t : Tap) → Contains b.taps t → t.node ≡ n → Carries network b
  carries n l b t k e = itself (record { tap = t; has = k; live = subst (λ m. Live network m) (sym e) l })

  -- the injection of a state at a live node
  state-carried : (J : ℕ → C) (s : State) → IsExactState network h J s → (n : ℕ) → Live network n → carried parts (drops s.voltage) n ≈ J n
  state-carried J s x n l =
      let I = current_of parts (drops s.voltage) in
      let e : leaving network.branches s.current n ≈ leaving network.branches I n =
      leaving-along network.branches s.current I n (λ i b g t k q. state-current J s x i b g (carries n l b t k q)) in
      let f : leaving network.branches I n ≈ carried parts (drops s.voltage) n = subst (λ bs. leaving bs I n ≈ carried parts (drops s.voltage) n) (sym S.admitted.all) (leaving-current_of parts (drops s.voltage) n) in
      next (back f) (next (back e) (x.sums n l))

  -- rows of some of the nodes
  abbrev RowsOf : List ℕ → List (List C) → Type 0
  RowsOf nodes rs = AllZip (λ n row. AllZip (λ n' entry. entry ≈ nodal_entry parts n n') ordering row) nodes rs

  -- the voltages of an exact state solve the nodal equations
  solves_rows : (J : ℕ → C) (s : State) → IsExactState network h J s → (nodes : List ℕ) (rs : List (List C)) → RowsOf nodes rs → ((n : ℕ) → IsAmong n nodes → Live network n) → Solves complex_numbers rs (map s.voltage ordering) (map J nodes)
  solves_rows J s x [] [] e l = tt
  solves_rows J s x [] (r ∷ rs) e l = absurd e
  solves_rows J s x (n ∷ nodes) [] e l = absurd e
  solves_rows J s x (n ∷ nodes) (r ∷ rs) e l = (
    next (row-drops s.voltage x.dead n r e.0) (state-carried J s x n (l n (inl refl))),
    solves_rows J s x nodes rs e.1 (λ m i. l m (inr i)),
  )

  pub state_solves : (J : ℕ → C) (s : State) → IsExactState network h J s → Solves complex_numbers rows (map s.voltage ordering) (map J ordering)
  state_solves J s x = solves_rows J s x ordering rows S.entries among_live

  -- and a solution is an exact state
  pub solution_carried : (J V : ℕ → C) → IsDead V → (nodes : List ℕ) (rs : List (List C)) → RowsOf nodes rs → Solves complex_numbers rs (map V ordering) (map J nodes) → (n : ℕ) → IsAmong n nodes → carried parts (drops V) n ≈ J n
  solution_carried J V d [] rs e s n i = absurd i
  solution_carried J V d (m ∷ nodes) [] e s n i = absurd e
  solution_carried J V d (m ∷ nodes) (r ∷ rs) e s n (inl q) =
      subst (λ k. carried parts (drops V) k ≈ J k) (sym q) (next (back (row-drops V d m r e.0)) s.0)
  solution_carried J V d (m ∷ nodes) (r ∷ rs) e s n (inr i) = solution_carried J V d nodes rs e.1 s.1 n i

  abbrev pub state_of : (ℕ → C) → State
  state_of V = record { voltage = V; current = current_of parts (drops V) }

  pub solution_is_state : (J V : ℕ → C) → IsDead V → Solves complex_numbers rows (map V ordering) (map J ordering) → IsExactState network h J (state_of V)
  solution_is_state J V d s = record {
    dead = d;
    laws = λ i b e c.
        subst (λ k. KeepsLaw b.law h I k (drops V b)) (plain i)
        (kept network h I (drops V) parts 0 S.admitted.each (λ j. subst (λ k. I k ≈ I j) (sym (plain j)) (same (I j))) i b (subst (λ bs. slice_get bs i ≡ Some b) S.admitted.all e) c);
    sums = λ n l.
        next (subst (λ bs. leaving bs I n ≈ carried parts (drops V) n) (sym S.admitted.all) (leaving-current_of parts (drops V) n))
        (solution_carried J V d ordering rows S.entries s n (live_among n l));
  }
    where
      I : ℕ → C
      I = current_of parts (drops V)

      plain : (j : ℕ) → 0 + j ≡ j
      plain j = omega arith
