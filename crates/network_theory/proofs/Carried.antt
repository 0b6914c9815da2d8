-- The currents that parts carry out of a node are linear in their branches' drops; a row of the nodal matrix gives them.
use Rattle.std.proofs.Common.{◌≡◌, ◌≢◌, ℕ, List, [], ◌∷◌, map, subst, sym, ◌∙◌, ◌⊎◌, inl, inr}
use Rattle.std.specs.List.{AllZip, AllByRecursion}
use Rattle.exact_algebra.specs.Ratio.{times}
use Rattle.exact_algebra.specs.Complex.{Complex, complex_numbers, real}
use Rattle.exact_algebra.proofs.Complexes.{complex_field}
use Rattle.exact_algebra.proofs.Reader.{reads, ring, linear, weigh, join, none_left}
use Rattle.linear_systems.specs.Assembly.{where_equal}
use Rattle.linear_systems.specs.Linear.{dot}
use Rattle.network_theory.specs.Branch.{Tap, Branch}
use Rattle.network_theory.specs.State.{drop}
use Rattle.network_theory.specs.Admittance.{Part, Alone, Group}
use Rattle.network_theory.specs.Current.{by_row}
use Rattle.network_theory.specs.Nodal.{tap_entry, pair_entry, part_entry, nodal_entry, IsDistinct}
use Rattle.exact_algebra.proofs.Reals.{real-times}
use Rattle.network_theory.proofs.Numbers.{R, one_at, where_equal-is, one_at-same, one_at-apart, same_node}
use Rattle.network_theory.proofs.Sums.{ratio_at}
open complex_numbers use {◌≈◌, nought, unit, ◌⊕◌, ◌⊗◌, minus}
open complex_field use {same, back, next, add_same, mul_same, minus_same}

abbrev C : Type 0
C = Complex

-- the current that a part carries out of node n, where a branch has the weight f in place of its drop
abbrev pub part_carried : Part → (Branch → C) → ℕ → C
part_carried (Alone b y) f n = ratio_at b.taps n ⊗ (y ⊗ f b)
part_carried (Group a b c Y) f n =
    ratio_at a.taps n ⊗ by_row (Y 0 0) (Y 0 1) (Y 0 2) (f a) (f b) (f c)
    ⊕ (ratio_at b.taps n ⊗ by_row (Y 1 0) (Y 1 1) (Y 1 2) (f a) (f b) (f c)
    ⊕ ratio_at c.taps n ⊗ by_row (Y 2 0) (Y 2 1) (Y 2 2) (f a) (f b) (f c))

abbrev pub carried : List Part → (Branch → C) → ℕ → C
carried [] f n = nought
carried (p ∷ ps) f n = part_carried p f n ⊕ carried ps f n

by_row-sum : (x y z u v w u' v' w' k : C) → by_row x y z (u ⊗ k ⊕ u') (v ⊗ k ⊕ v') (w ⊗ k ⊕ w') ≈ by_row x y z u v w ⊗ k ⊕ by_row x y z u' v' w'
by_row-sum x y z u v w u' v' w' k = ring R (x ∷ y ∷ z ∷ u ∷ v ∷ w ∷ u' ∷ v' ∷ w' ∷ k ∷ []) (search reads depth 40 fits 4000) none_left

by_row-along : (x y z : C) {u v w u' v' w' : C} → u ≈ u' → v ≈ v' → w ≈ w' → by_row x y z u v w ≈ by_row x y z u' v' w'
by_row-along x y z p q r = add_same (mul_same (same x) p) (add_same (mul_same (same y) q) (mul_same (same z) r))

-- f·k + g
part_carried-sum : (p : Part) (f g : Branch → C) (k : C) (n : ℕ) → part_carried p (λ b. f b ⊗ k ⊕ g b) n ≈ part_carried p f n ⊗ k ⊕ part_carried p g n
part_carried-sum (Alone b y) f g k n = ring R (ratio_at b.taps n ∷ y ∷ f b ∷ g b ∷ k ∷ []) (search reads depth 40 fits 4000) none_left
part_carried-sum (Group a b c Y) f g k n =
    let p = ratio_at a.taps n in let q = ratio_at b.taps n in let r = ratio_at c.taps n in
    let s1 = by_row (Y 0 0) (Y 0 1) (Y 0 2) in let s2 = by_row (Y 1 0) (Y 1 1) (Y 1 2) in let s3 = by_row (Y 2 0) (Y 2 1) (Y 2 2) in
    three p q r
    (s1 (f a ⊗ k ⊕ g a) (f b ⊗ k ⊕ g b) (f c ⊗ k ⊕ g c)) (s2 (f a ⊗ k ⊕ g a) (f b ⊗ k ⊕ g b) (f c ⊗ k ⊕ g c)) (s3 (f a ⊗ k ⊕ g a) (f b ⊗ k ⊕ g b) (f c ⊗ k ⊕ g c))
    (s1 (f a) (f b) (f c)) (s2 (f a) (f b) (f c)) (s3 (f a) (f b) (f c)) (s1 (g a) (g b) (g c)) (s2 (g a) (g b) (g c)) (s3 (g a) (g b) (g c)) k
    (by_row-sum _ _ _ _ _ _ _ _ _ k) (by_row-sum _ _ _ _ _ _ _ _ _ k) (by_row-sum _ _ _ _ _ _ _ _ _ k)
  where
    three : (p q r x y z u v w u' v' w' k : C) → x ≈ u ⊗ k ⊕ u' → y ≈ v ⊗ k ⊕ v' → z ≈ w ⊗ k ⊕ w' → p ⊗ x ⊕ (q ⊗ y ⊕ r ⊗ z) ≈ (p ⊗ u ⊕ (q ⊗ v ⊕ r ⊗ w)) ⊗ k ⊕ (p ⊗ u' ⊕ (q ⊗ v' ⊕ r ⊗ w'))
    three p q r x y z u v w u' v' w' k h1 h2 h3 =
        linear R (p ∷ q ∷ r ∷ x ∷ y ∷ z ∷ u ∷ v ∷ w ∷ u' ∷ v' ∷ w' ∷ k ∷ []) (join R (weigh R p h1) (join R (weigh R q h2) (weigh R r h3))) (search reads depth 40 fits 4000) none_left

pub carried-sum : (ps : List Part) (f g : Branch → C) (k : C) (n : ℕ) → carried ps (λ b. f b ⊗ k ⊕ g b) n ≈ carried ps f n ⊗ k ⊕ carried ps g n
carried-sum [] f g k n = ring R (k ∷ []) (search reads depth 40 fits 4000) none_left
carried-sum (p ∷ ps) f g k n =
    linear R (part_carried p f n ∷ part_carried p g n ∷ part_carried p (λ b. f b ⊗ k ⊕ g b) n ∷ carried ps f n ∷ carried ps g n ∷ carried ps (λ b. f b ⊗ k ⊕ g b) n ∷ k ∷ [])
    (join R (weigh R unit (part_carried-sum p f g k n)) (weigh R unit (carried-sum ps f g k n))) (search reads depth 40 fits 4000) none_left

pub part_carried-along : (p : Part) (f g : Branch → C) (n : ℕ) → ((b : Branch) → f b ≈ g b) → part_carried p f n ≈ part_carried p g n
part_carried-along (Alone b y) f g n h = mul_same (same _) (mul_same (same y) (h b))
part_carried-along (Group a b c Y) f g n h =
    add_same (mul_same (same _) (by_row-along _ _ _ (h a) (h b) (h c)))
    (add_same (mul_same (same _) (by_row-along _ _ _ (h a) (h b) (h c))) (mul_same (same _) (by_row-along _ _ _ (h a) (h b) (h c))))

pub carried-along : (ps : List Part) (f g : Branch → C) (n : ℕ) → ((b : Branch) → f b ≈ g b) → carried ps f n ≈ carried ps g n
carried-along [] f g n h = same _
carried-along (p ∷ ps) f g n h = add_same (part_carried-along p f g n h) (carried-along ps f g n h)

by_row-nought : (x y z p : C) → p ⊗ by_row x y z nought nought nought ≈ nought
by_row-nought x y z p = ring R (x ∷ y ∷ z ∷ p ∷ []) (search reads depth 40 fits 4000) none_left

pub carried-nought : (ps : List Part) (n : ℕ) → carried ps (λ b. nought) n ≈ nought
carried-nought [] n = same _
carried-nought (Alone b y ∷ ps) n =
    linear R (ratio_at b.taps n ∷ y ∷ carried ps (λ b. nought) n ∷ []) (weigh R unit (carried-nought ps n)) (search reads depth 40 fits 4000) none_left
carried-nought (Group a b c Y ∷ ps) n =
    next (add_same (add_same (by_row-nought _ _ _ _) (add_same (by_row-nought _ _ _ _) (by_row-nought _ _ _ _))) (carried-nought ps n))
    (ring R [] (search reads depth 40 fits 4000) none_left)

tap_entry-is : (t : Tap) (us : List Tap) (y : C) (n' : ℕ) → tap_entry t us y n' ≈ real t.ratio ⊗ (y ⊗ ratio_at us n')
tap_entry-is t [] y n' = ring R (real t.ratio ∷ y ∷ []) (search reads depth 40 fits 4000) none_left
tap_entry-is t (u ∷ us) y n' =
    let o = one_at u.node n' in
    let e = where_equal-is u.node n' (real (times t.ratio u.ratio) ⊗ y) in
    linear R (real t.ratio ∷ real u.ratio ∷ real (times t.ratio u.ratio) ∷ y ∷ o ∷ ratio_at us n' ∷ tap_entry t us y n' ∷ where_equal complex_numbers u.node n' (real (times t.ratio u.ratio) ⊗ y) ∷ [])
    (join R (weigh R unit e) (join R (weigh R (o ⊗ y) (real-times t.ratio u.ratio)) (weigh R unit (tap_entry-is t us y n')))) (search reads depth 40 fits 4000) none_left

pub pair_entry-is : (ts us : List Tap) (y : C) (n n' : ℕ) → pair_entry ts us y n n' ≈ ratio_at ts n ⊗ (y ⊗ ratio_at us n')
pair_entry-is [] us y n n' = ring R (y ∷ ratio_at us n' ∷ []) (search reads depth 40 fits 4000) none_left
pair_entry-is (t ∷ ts) us y n n' =
    let o = one_at t.node n in
    linear R (real t.ratio ∷ y ∷ o ∷ ratio_at us n' ∷ ratio_at ts n ∷ tap_entry t us y n' ∷ pair_entry ts us y n n' ∷ where_equal complex_numbers t.node n (tap_entry t us y n') ∷ [])
    (join R (weigh R unit (where_equal-is t.node n (tap_entry t us y n'))) (join R (weigh R o (tap_entry-is t us y n')) (weigh R unit (pair_entry-is ts us y n n'))))
    (search reads depth 40 fits 4000) none_left

nine : (a b c d e f g h i : C) → a ⊕ b ⊕ c ⊕ d ⊕ e ⊕ f ⊕ g ⊕ h ⊕ i ≈ (a ⊕ (b ⊕ c)) ⊕ ((d ⊕ (e ⊕ f)) ⊕ (g ⊕ (h ⊕ i)))
nine a b c d e f g h i = ring R (a ∷ b ∷ c ∷ d ∷ e ∷ f ∷ g ∷ h ∷ i ∷ []) (search reads depth 40 fits 4000) none_left

row_of : (p x y z u v w : C) {a b c : C} → a ≈ p ⊗ (x ⊗ u) → b ≈ p ⊗ (y ⊗ v) → c ≈ p ⊗ (z ⊗ w) → a ⊕ (b ⊕ c) ≈ p ⊗ by_row x y z u v w
row_of p x y z u v w h k l =
    next (add_same h (add_same k l)) (ring R (p ∷ x ∷ y ∷ z ∷ u ∷ v ∷ w ∷ []) (search reads depth 40 fits 4000) none_left)

pub part_entry-is : (p : Part) (n n' : ℕ) → part_entry p n n' ≈ part_carried p (λ b. ratio_at b.taps n') n
part_entry-is (Alone b y) n n' = pair_entry-is b.taps b.taps y n n'
part_entry-is (Group a b c Y) n n' =
    next (nine _ _ _ _ _ _ _ _ _)
    (add_same (row_of _ _ _ _ _ _ _ (pair_entry-is a.taps a.taps (Y 0 0) n n') (pair_entry-is a.taps b.taps (Y 0 1) n n') (pair_entry-is a.taps c.taps (Y 0 2) n n'))
    (add_same (row_of _ _ _ _ _ _ _ (pair_entry-is b.taps a.taps (Y 1 0) n n') (pair_entry-is b.taps b.taps (Y 1 1) n n') (pair_entry-is b.taps c.taps (Y 1 2) n n'))
    (row_of _ _ _ _ _ _ _ (pair_entry-is c.taps a.taps (Y 2 0) n n') (pair_entry-is c.taps b.taps (Y 2 1) n n') (pair_entry-is c.taps c.taps (Y 2 2) n n'))))

pub entry-is : (ps : List Part) (n n' : ℕ) → nodal_entry ps n n' ≈ carried ps (λ b. ratio_at b.taps n') n
entry-is [] n n' = same _
entry-is (p ∷ ps) n n' = add_same (part_entry-is p n n') (entry-is ps n n')

-- the drop of a branch, node by node of a list
abbrev pub spread : List Tap → (ℕ → C) → List ℕ → C
spread taps V [] = nought
spread taps V (n ∷ ordering) = ratio_at taps n ⊗ V n ⊕ spread taps V ordering

-- a row of the nodal matrix gives, at voltages, the currents that the parts carry out of its node
pub row-carried : (ps : List Part) (n : ℕ) (V : ℕ → C) (ordering : List ℕ) (row : List C) → AllZip (λ n' entry. entry ≈ nodal_entry ps n n') ordering row
    → dot complex_numbers row (map V ordering) ≈ carried ps (λ b. spread b.taps V ordering) n
row-carried ps n V [] [] h = back (carried-nought ps n)
row-carried ps n V [] (e ∷ row) h = absurd h
row-carried ps n V (m ∷ ordering) [] h = absurd h
row-carried ps n V (m ∷ ordering) (e ∷ row) h =
    let f : Branch → C = λ b. ratio_at b.taps m in
    let g : Branch → C = λ b. spread b.taps V ordering in
    next (add_same (mul_same (next h.0 (entry-is ps n m)) (same (V m))) (row-carried ps n V ordering row h.1)) (back (carried-sum ps f g (V m) n))

-- the voltage of a node, picked from a list
abbrev pub pick : ℕ → (ℕ → C) → List ℕ → C
pick m V [] = nought
pick m V (n ∷ ordering) = one_at m n ⊗ V n ⊕ pick m V ordering

pick-none : (m : ℕ) (V : ℕ → C) (ordering : List ℕ) → AllByRecursion (λ n. m ≢ n) ordering → pick m V ordering ≈ nought
pick-none m V [] h = same _
pick-none m V (n ∷ ordering) h =
    linear R (one_at m n ∷ V n ∷ pick m V ordering ∷ []) (join R (weigh R (V n) (one_at-apart m n h.0)) (weigh R unit (pick-none m V ordering h.1))) (search reads depth 40 fits 4000) none_left

pub pick-zero : (m : ℕ) (V : ℕ → C) (ordering : List ℕ) → V m ≈ nought → pick m V ordering ≈ nought
pick-zero m V [] h = same _
pick-zero m V (n ∷ ordering) h =
    let e : one_at m n ⊗ V n ≈ nought = elim (same_node m n) [
      | yes q ↦ next (mul_same (same _) (subst (λ k. V k ≈ nought) q h)) (ring R (one_at m n ∷ []) (search reads depth 40 fits 4000) none_left)
      | no q ↦ next (mul_same (one_at-apart m n q) (same _)) (ring R (V n ∷ []) (search reads depth 40 fits 4000) none_left)
    ] in
    next (add_same e (pick-zero m V ordering h)) (ring R [] (search reads depth 40 fits 4000) none_left)

-- a member of a list
abbrev pub IsAmong : ℕ → List ℕ → Type 0
IsAmong m [] = ⊥
IsAmong m (n ∷ ordering) = (m ≡ n) ⊎ IsAmong m ordering

pub pick-one : (m : ℕ) (V : ℕ → C) (ordering : List ℕ) → IsDistinct ordering → IsAmong m ordering → pick m V ordering ≈ V m
pick-one m V [] d i = absurd i
pick-one m V (n ∷ ordering) d (inl e) =
    let a : AllByRecursion (λ k. m ≢ k) ordering = subst (λ j. AllByRecursion (λ k. j ≢ k) ordering) (sym e) d.0 in
    let o : one_at m n ≈ unit = subst (λ j. one_at m j ≈ unit) e (one_at-same m) in
    let v : V n ≈ V m = subst (λ j. V j ≈ V m) e (same (V m)) in
    linear R (one_at m n ∷ V n ∷ V m ∷ pick m V ordering ∷ []) (join R (weigh R (V n) o) (join R (weigh R unit v) (weigh R unit (pick-none m V ordering a)))) (search reads depth 40 fits 4000) none_left
pick-one m V (n ∷ ordering) d (inr i) =
    let apart : ¬ (m ≡ n) = λ e. among-apart ordering d.0 i (sym e) in
    linear R (one_at m n ∷ V n ∷ V m ∷ pick m V ordering ∷ []) (join R (weigh R (V n) (one_at-apart m n apart)) (weigh R unit (pick-one m V ordering d.1 i))) (search reads depth 40 fits 4000) none_left
  where
    among-apart : (ordering : List ℕ) → AllByRecursion (λ k. n ≢ k) ordering → IsAmong m ordering → ¬ (n ≡ m)
    among-apart [] h i = absurd i
    among-apart (k ∷ ordering) h (inl e) = λ q. h.0 (q ∙ e)
    among-apart (k ∷ ordering) h (inr i) = among-apart ordering h.1 i

spread-nil : (V : ℕ → C) (ordering : List ℕ) → spread [] V ordering ≈ nought
spread-nil V [] = same _
spread-nil V (n ∷ ordering) = linear R (V n ∷ spread [] V ordering ∷ []) (weigh R unit (spread-nil V ordering)) (search reads depth 40 fits 4000) none_left

spread-cons : (t : Tap) (taps : List Tap) (V : ℕ → C) (ordering : List ℕ) → spread (t ∷ taps) V ordering ≈ real t.ratio ⊗ pick t.node V ordering ⊕ spread taps V ordering
spread-cons t taps V [] = ring R (real t.ratio ∷ []) (search reads depth 40 fits 4000) none_left
spread-cons t taps V (n ∷ ordering) =
    linear R (real t.ratio ∷ one_at t.node n ∷ ratio_at taps n ∷ V n ∷ pick t.node V ordering ∷ spread taps V ordering ∷ spread (t ∷ taps) V ordering ∷ [])
    (weigh R unit (spread-cons t taps V ordering)) (search reads depth 40 fits 4000) none_left

-- a drop is spread over a list of the nodes whose voltages aren't zero
pub spread-drop : (V : ℕ → C) (ordering : List ℕ) → ((m : ℕ) → pick m V ordering ≈ V m) → (taps : List Tap) → drop V taps ≈ spread taps V ordering
spread-drop V ordering h [] = back (spread-nil V ordering)
spread-drop V ordering h (t ∷ taps) =
    next (add_same (mul_same (same _) (back (h t.node))) (spread-drop V ordering h taps)) (back (spread-cons t taps V ordering))
