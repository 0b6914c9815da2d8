-- One more shunt at the driven node.
use Rattle.std.proofs.Common.{◌≡◌, ◌≢◌, ℕ, zero, suc, ◌<◌, pos, List, [], ◌∷◌, ◌++◌, map, ap, refl, subst, sym, arith, ◌∙◌, length, get_or, take, ◌⊎◌, inl, inr}
use Rattle.std.specs.Prelude.{Contains}
use Rattle.std.specs.List.{AllZip, AllByRecursion}
use Rattle.exact_algebra.specs.Ratio.{Ratio, whole}
use Rattle.exact_algebra.specs.Complex.{Complex, complex_numbers, real}
use Rattle.exact_algebra.proofs.Complexes.{complex_field}
use Rattle.exact_algebra.proofs.Reader.{reads, ring, linear, weigh, join, none_left}
use Rattle.linear_systems.specs.Linear.{dot, Annuls}
use Rattle.network_theory.specs.Order.{Order}
use Rattle.network_theory.specs.Branch.{Tap, Branch}
use Rattle.network_theory.specs.Network.{Network}
use Rattle.network_theory.specs.Live.{Live, grounded, joined, HasLiveNode, Carries, itself, by_group}
use Rattle.network_theory.specs.Impedance.{shunt_admittance}
use Rattle.network_theory.specs.Admittance.{Part, Alone, Group, branches_of, flatten, HasAdmittance, alone}
use Rattle.network_theory.specs.Nodal.{part_entry, nodal_entry, IsDistinct, IsNodal, IsNodalSystem, IsLast}
use Rattle.network_theory.specs.Extra.{shunt_at, with_shunt, ExtraShunt}
use Rattle.network_theory.proofs.Numbers.{R, one_at, one_at-same, one_at-apart}
use Rattle.network_theory.proofs.Carried.{part_entry-is, IsAmong}
use Rattle.network_theory.proofs.Bridge.{not_among}
use Rattle.network_theory.proofs.Driven.{at_among}
use Rattle.network_theory.proofs.OneNode.{real-unit}
open complex_numbers use {◌≈◌, nought, unit, ◌⊕◌, ◌⊗◌, minus}
open complex_field use {same, back, next, add_same, mul_same, minus_same}

abbrev C : Type 0
C = Complex

-- members of a list with one more element
contains_front : {X : Type 0} (xs : List X) (s x : X) → Contains xs x → Contains (xs ++ s ∷ []) x
contains_front [] s x k = absurd (omega (arith, k.1))
contains_front (y ∷ xs) s x k = go k.0 k.1 k.2 (λ i l e. contains_front xs s x (i, l, e))
  where
    go : (i : ℕ) → i < suc (length xs) → get_or (y ∷ xs) i x ≡ x → ((i : ℕ) → i < length xs → get_or xs i x ≡ x → Contains (xs ++ s ∷ []) x) → Contains (y ∷ (xs ++ s ∷ [])) x
    go zero l e more = (0, omega arith, e)
    go (suc i) l e more = let m = more i (omega arith) e in (suc m.0, omega (arith, m.1), m.2)

contains_either : {X : Type 0} (xs : List X) (s x : X) → Contains (xs ++ s ∷ []) x → Contains xs x ⊎ (s ≡ x)
contains_either [] s x k = go k.0 k.1 k.2
  where
    go : (i : ℕ) → i < 1 → get_or (s ∷ []) i x ≡ x → Contains [] x ⊎ (s ≡ x)
    go zero l e = inr e
    go (suc i) l e = absurd (omega arith)
contains_either (y ∷ xs) s x k = go k.0 k.1 k.2 (λ i l e. contains_either xs s x (i, l, e))
  where
    go : (i : ℕ) → i < suc (length (xs ++ s ∷ [])) → get_or (y ∷ (xs ++ s ∷ [])) i x ≡ x → ((i : ℕ) → i < length (xs ++ s ∷ []) → get_or (xs ++ s ∷ []) i x ≡ x → Contains xs x ⊎ (s ≡ x)) → Contains (y ∷ xs) x ⊎ (s ≡ x)
    go zero l e more = inl (0, omega arith, e)
    go (suc i) l e more = elim (more i (omega arith) e) [ inl m ↦ inl (suc m.0, omega (arith, m.1), m.2) | inr q ↦ inr q ]

module _ (network : Network) (k : ℕ) (e : Ratio) where
  abbrev more : Network
  more = with_shunt network k e

  abbrev s : Branch
  s = shunt_at k e

  pub live_up : (n : ℕ) → Live network n → Live more n
  live_up n (grounded b t c q) = grounded b t (contains_front network.branches s b c) q
  live_up n (joined b t u c p q l) = joined b t u (contains_front network.branches s b c) p q (live_up t.node l)

  its_tap : (b : Branch) (u : Tap) → s ≡ b → Contains b.taps u → u.node ≡ k
  its_tap b u q c =
      let d : Contains s.taps u = subst (λ o. Contains o.taps u) (sym q) c in
      go d.0 d.1 d.2
    where
      go : (i : ℕ) → i < 1 → get_or (record { node = k; ratio = whole (pos 1) } ∷ []) i u ≡ u → u.node ≡ k
      go zero l e = ap (λ z. z.node) (sym e)
      go (suc i) l e = absurd (omega arith)

  pub live_down : Live network k → (n : ℕ) → Live more n → Live network n
  live_down lk n (grounded b t c q) = elim (contains_either network.branches s b c) [
    | inl m ↦ grounded b t m q
    | inr w ↦ subst (λ j. Live network j) (sym (its_tap b t w (subst (λ ts. Contains ts t) (sym q) (0, omega arith, refl)))) lk
  ]
  live_down lk n (joined b t u c p q l) =
      let lt = live_down lk t.node l in
      elim (contains_either network.branches s b c) [
        | inl m ↦ joined b t u m p q lt
        | inr w ↦ subst (λ j. Live network j) (sym (its_tap b u w q)) lk
      ]

  has_down : Live network k → (b : Branch) → HasLiveNode more b → HasLiveNode network b
  has_down lk b h = record { tap = h.tap; has = h.has; live = live_down lk h.tap.node h.live }

  carries_down : Live network k → (b : Branch) → Carries more b → Carries network b
  carries_down lk b (itself l) = itself (has_down lk b l)
  carries_down lk b (by_group o i n q l) = elim (contains_either network.branches s o i) [
    | inl m ↦ by_group o m n q (has_down lk o l)
    | inr w ↦ absurd (n (ap (λ z. z.group) (sym w)))
  ]

  module _ (h : Order) where
    abbrev y' : C
    y' = shunt_admittance e h

    abbrev last_part : Part
    last_part = Alone s y'

    pub flatten-more : (ps : List Part) → flatten (ps ++ last_part ∷ []) ≡ flatten ps ++ s ∷ []
    flatten-more [] = refl
    flatten-more (Alone b y ∷ ps) = ap (λ z. b ∷ z) (flatten-more ps)
    flatten-more (Group a b c Y ∷ ps) = ap (λ z. a ∷ b ∷ c ∷ z) (flatten-more ps)

    pub each-more : Live network k → (ps : List Part) → AllByRecursion (λ part. (b : Branch) → Contains (branches_of part) b → Carries network b → HasAdmittance h part) ps
        → AllByRecursion (λ part. (b : Branch) → Contains (branches_of part) b → Carries more b → HasAdmittance h part) (ps ++ last_part ∷ [])
    each-more lk [] a = (λ b i c. alone s y' (same y'), tt)
    each-more lk (p ∷ ps) a = (λ b i c. a.0 b i (carries_down lk b c), each-more lk ps a.1)

    -- an entry with the shunt
    pub entry-more : (ps : List Part) (n n' : ℕ) → nodal_entry (ps ++ last_part ∷ []) n n' ≈ nodal_entry ps n n' ⊕ one_at k n ⊗ (y' ⊗ one_at k n')
    entry-more [] n n' = plain (one_at k n) (one_at k n') (real (whole (pos 1))) y' (part_entry last_part n n') (part_entry-is last_part n n') real-unit
      where
        plain : (o o' r y p : C) → p ≈ (o ⊗ r ⊕ nought) ⊗ (y ⊗ (o' ⊗ r ⊕ nought)) → r ≈ unit → p ⊕ nought ≈ nought ⊕ o ⊗ (y ⊗ o')
        plain o o' r y p q w =
            linear R (o ∷ o' ∷ r ∷ y ∷ p ∷ []) (join R (weigh R unit q) (weigh R (o ⊗ y ⊗ o' ⊗ (r ⊕ unit)) w)) (search reads depth 40 fits 4000) none_left
    entry-more (p ∷ ps) n n' = next (add_same (same _) (entry-more ps n n')) (back (complex_field.add_assoc _ _ _))

    -- the entry of a list that stands where node k does
    abbrev entry_at : List ℕ → List C → C
    entry_at [] x = nought
    entry_at (m ∷ ordering) [] = nought
    entry_at (m ∷ ordering) (v ∷ x) = one_at k m ⊗ v ⊕ entry_at ordering x

    abbrev RowOf : List Part → ℕ → List ℕ → List C → Type 0
    RowOf ps n ordering row = AllZip (λ n' entry. entry ≈ nodal_entry ps n n') ordering row

    row-more : (ps : List Part) (n : ℕ) (ordering : List ℕ) (row row' x : List C) → RowOf ps n ordering row → RowOf (ps ++ last_part ∷ []) n ordering row' → dot complex_numbers row' x ≈ dot complex_numbers row x ⊕ one_at k n ⊗ (y' ⊗ entry_at ordering x)
    row-more ps n [] [] [] x p q = ring R (one_at k n ∷ y' ∷ []) (search reads depth 40 fits 4000) none_left
    row-more ps n [] (r ∷ row) row' x p q = absurd p
    row-more ps n [] [] (r ∷ row') x p q = absurd q
    row-more ps n (m ∷ ordering) [] row' x p q = absurd p
    row-more ps n (m ∷ ordering) (r ∷ row) [] x p q = absurd q
    row-more ps n (m ∷ ordering) (r ∷ row) (r' ∷ row') [] p q = ring R (one_at k n ∷ y' ∷ []) (search reads depth 40 fits 4000) none_left
    row-more ps n (m ∷ ordering) (r ∷ row) (r' ∷ row') (v ∷ x) p q =
        step r r' v (nodal_entry ps n m) _ (one_at k n) (one_at k m) y' _ _ _ p.0 q.0 (entry-more ps n m) (row-more ps n ordering row row' x p.1 q.1)
      where
        step : (r r' v a a' o o' y d d' f : C) → r ≈ a → r' ≈ a' → a' ≈ a ⊕ o ⊗ (y ⊗ o') → d' ≈ d ⊕ o ⊗ (y ⊗ f) → r' ⊗ v ⊕ d' ≈ (r ⊗ v ⊕ d) ⊕ o ⊗ (y ⊗ (o' ⊗ v ⊕ f))
        step r r' v a a' o o' y d d' f h1 h2 h3 h4 =
            linear R (r ∷ r' ∷ v ∷ a ∷ a' ∷ o ∷ o' ∷ y ∷ d ∷ d' ∷ f ∷ []) (join R (weigh R (minus v) h1) (join R (weigh R v h2) (join R (weigh R v h3) (weigh R unit h4)))) (search reads depth 40 fits 8000) none_left

    none_at : (ordering : List ℕ) (x : List C) → ¬ IsAmong k ordering → entry_at ordering x ≈ nought
    none_at [] x n = same _
    none_at (m ∷ ordering) [] n = same _
    none_at (m ∷ ordering) (v ∷ x) n =
        linear R (one_at k m ∷ v ∷ entry_at ordering x ∷ []) (join R (weigh R v (one_at-apart k m (λ q. n (inl q)))) (weigh R unit (none_at ordering x (λ i. n (inr i))))) (search reads depth 40 fits 4000) none_left

    head_apart : (m n : ℕ) (ordering : List ℕ) → AllByRecursion (λ j. m ≢ j) ordering → n < length ordering → get_or ordering n 0 ≡ k → ¬ (k ≡ m)
    head_apart m n ordering d l q w = not_among m ordering d (subst (λ j. IsAmong j ordering) (q ∙ w) (at_among ordering n l))

    entry_last : (n : ℕ) (ordering : List ℕ) (x : List C) → IsDistinct ordering → n < length ordering → length x ≡ length ordering → get_or ordering n 0 ≡ k → entry_at ordering x ≈ get_or x n nought
    entry_last n [] x d l lx q = absurd (omega arith)
    entry_last n (m ∷ ordering) [] d l lx q = absurd (omega arith)
    entry_last zero (m ∷ ordering) (v ∷ x) d l lx q =
        let o : one_at k m ≈ unit = subst (λ j. one_at j m ≈ unit) q (one_at-same m) in
        linear R (one_at k m ∷ v ∷ entry_at ordering x ∷ []) (join R (weigh R v o) (weigh R unit (none_at ordering x (λ i. not_among m ordering d.0 (subst (λ j. IsAmong j ordering) (sym q) i))))) (search reads depth 40 fits 4000) none_left
    entry_last (suc n) (m ∷ ordering) (v ∷ x) d l lx q =
        let w = get_or x n nought in
        linear R (one_at k m ∷ v ∷ w ∷ entry_at ordering x ∷ []) (join R (weigh R v (one_at-apart k m (head_apart m n ordering d.0 (omega arith) q))) (weigh R unit (entry_last n ordering x d.1 (omega arith) (omega arith) q))) (search reads depth 40 fits 4000) none_left

    -- all rows but the last are as before
    abbrev RowsOf : List Part → List ℕ → List ℕ → List (List C) → Type 0
    RowsOf ps ordering nodes rows = AllZip (λ n row. RowOf ps n ordering row) nodes rows

    plain_row : (ps : List Part) (n : ℕ) (ordering : List ℕ) (row row' x : List C) → RowOf ps n ordering row → RowOf (ps ++ last_part ∷ []) n ordering row' → ¬ (k ≡ n) → dot complex_numbers row' x ≈ dot complex_numbers row x
    plain_row ps n ordering row row' x p q a =
        step _ _ _ _ (one_at-apart k n a) (row-more ps n ordering row row' x p q)
      where
        step : (d d' o z : C) → o ≈ nought → d' ≈ d ⊕ o ⊗ z → d' ≈ d
        step d d' o z h g = linear R (d ∷ d' ∷ o ∷ z ∷ []) (join R (weigh R unit g) (weigh R z h)) (search reads depth 40 fits 4000) none_left

    annuls_both : (ps : List Part) (ordering nodes : List ℕ) (rows rows' : List (List C)) (n : ℕ) (x : List C) → RowsOf ps ordering nodes rows → RowsOf (ps ++ last_part ∷ []) ordering nodes rows' → IsDistinct nodes → n < length nodes → get_or nodes n 0 ≡ k
        → (Annuls complex_numbers (take n rows) x → Annuls complex_numbers (take n rows') x) × (Annuls complex_numbers (take n rows') x → Annuls complex_numbers (take n rows) x)
    annuls_both ps ordering nodes rows rows' zero x p q d l w = (λ a. tt, λ a. tt)
    annuls_both ps ordering [] rows rows' (suc n) x p q d l w = absurd (omega arith)
    annuls_both ps ordering (m ∷ nodes) [] rows' (suc n) x p q d l w = absurd p
    annuls_both ps ordering (m ∷ nodes) (r ∷ rows) [] (suc n) x p q d l w = absurd q
    annuls_both ps ordering (m ∷ nodes) (r ∷ rows) (r' ∷ rows') (suc n) x p q d l w =
        let t = annuls_both ps ordering nodes rows rows' n x p.1 q.1 d.1 (omega arith) w in
        let e = plain_row ps m ordering r r' x p.0 q.0 (head_apart m n nodes d.0 (omega arith) w) in
        (λ a. (next e a.0, t.0 a.1), λ a. (next (back e) a.0, t.1 a.1))

    row_at : (ps : List Part) (ordering nodes : List ℕ) (rows : List (List C)) (n : ℕ) → RowsOf ps ordering nodes rows → n < length nodes → RowOf ps (get_or nodes n 0) ordering (get_or rows n [])
    row_at ps ordering [] rows n p l = absurd (omega arith)
    row_at ps ordering (m ∷ nodes) [] n p l = absurd p
    row_at ps ordering (m ∷ nodes) (r ∷ rows) zero p l = p.0
    row_at ps ordering (m ∷ nodes) (r ∷ rows) (suc n) p l = row_at ps ordering nodes rows n p.1 (omega arith)

    -- the matrix of the entries
    abbrev row_for : List Part → ℕ → List ℕ → List C
    row_for ps n ordering = map (λ n'. nodal_entry ps n n') ordering

    row_for-is : (ps : List Part) (n : ℕ) (ordering : List ℕ) → RowOf ps n ordering (row_for ps n ordering)
    row_for-is ps n [] = tt
    row_for-is ps n (m ∷ ordering) = (same _, row_for-is ps n ordering)

    rows_for-is : (ps : List Part) (ordering nodes : List ℕ) → RowsOf ps ordering nodes (map (λ n. row_for ps n ordering) nodes)
    rows_for-is ps ordering [] = tt
    rows_for-is ps ordering (n ∷ nodes) = (row_for-is ps n ordering, rows_for-is ps ordering nodes)

at_contains : (ordering : List ℕ) (n : ℕ) → n < length ordering → Contains ordering (get_or ordering n 0)
at_contains [] n l = absurd (omega arith)
at_contains (m ∷ ordering) zero l = (0, omega arith, refl)
at_contains (m ∷ ordering) (suc n) l = let c = at_contains ordering n (omega arith) in (suc c.0, omega (arith, c.1), c.2)

-- the nodal equations with the shunt at the last node: its part is one more, and the entries are those of all parts
pub shunted_system : (network : Network) (h : Order) (k : ℕ) (e : Ratio) (parts : List Part) (ordering : List ℕ) (rows rows' : List (List C)) (n : ℕ) → IsNodalSystem network h parts ordering rows → IsLast ordering n k
    → IsNodal (parts ++ Alone (shunt_at k e) (shunt_admittance e h) ∷ []) ordering rows' → IsNodalSystem (with_shunt network k e) h (parts ++ Alone (shunt_at k e) (shunt_admittance e h) ∷ []) ordering rows'
shunted_system network h k e parts ordering rows rows' n system last entries =
    let below : n < length ordering = subst (λ m. n < m) (sym last.count) (omega arith) in
    let live : Live network k = (system.listed.live k).1 (subst (λ j. Contains ordering j) last.last (at_contains ordering n below)) in
    record {
      admitted = record {
        all = ap (λ bs. bs ++ shunt_at k e ∷ []) system.admitted.all ∙ sym (flatten-more network k e h parts);
        each = each-more network k e h live parts system.admitted.each;
      };
      listed = record {
        distinct = system.listed.distinct;
        live = λ m. (λ l. (system.listed.live m).0 (live_down network k e live m l), λ c. live_up network k e m ((system.listed.live m).1 c));
      };
      entries = entries;
    }

pub extra_shunt : ExtraShunt
extra_shunt network h k y e r = record {
  parts = parts;
  ordering = r.ordering;
  rows = rows;
  n = r.n;
  system = shunted_system network h k e r.parts r.ordering r.rows rows r.n r.system r.last entries;
  last = r.last;
  value = λ v.
      let c = r.value v in
      record {
        list = c.list;
        count = c.count;
        ends = c.ends;
        annuls = (annuls_both network k e h r.parts r.ordering r.ordering r.rows rows r.n c.list r.system.entries entries r.system.listed.distinct below r.last.last).0 c.annuls;
        last = last_row v c.list c.count c.ends c.last;
        only = λ x l q a. c.only x l q ((annuls_both network k e h r.parts r.ordering r.ordering r.rows rows r.n x r.system.entries entries r.system.listed.distinct below r.last.last).1 a);
      };
}
  where
    z : C
    z = shunt_admittance e h

    parts : List Part
    parts = r.parts ++ Alone (shunt_at k e) z ∷ []

    rows : List (List C)
    rows = map (λ n. row_for network k e h parts n r.ordering) r.ordering

    entries : IsNodal parts r.ordering rows
    entries = rows_for-is network k e h parts r.ordering r.ordering

    below : r.n < length r.ordering
    below = subst (λ m. r.n < m) (sym r.last.count) (omega arith)

    last_row : (v : C) (x : List C) → length x ≡ suc r.n → get_or x r.n nought ≈ v → dot complex_numbers (get_or r.rows r.n []) x ≈ y ⊗ v → dot complex_numbers (get_or rows r.n []) x ≈ (y ⊕ z) ⊗ v
    last_row v x l q p =
        let j = get_or r.ordering r.n 0 in
        let more = row-more network k e h r.parts j r.ordering (get_or r.rows r.n []) (get_or rows r.n []) x (row_at network k e h r.parts r.ordering r.ordering r.rows r.n r.system.entries below) (row_at network k e h parts r.ordering r.ordering rows r.n entries below) in
        let o : one_at k j ≈ unit = subst (λ i. one_at i j ≈ unit) r.last.last (one_at-same j) in
        let f = entry_last network k e h r.n r.ordering x r.system.listed.distinct below (l ∙ sym r.last.count) r.last.last in
        step _ _ (one_at k j) _ v y z (next f q) o more p
      where
        step : (d d' o f v y z : C) → f ≈ v → o ≈ unit → d' ≈ d ⊕ o ⊗ (z ⊗ f) → d ≈ y ⊗ v → d' ≈ (y ⊕ z) ⊗ v
        step d d' o f v y z h1 h2 h3 h4 =
            linear R (d ∷ d' ∷ o ∷ f ∷ v ∷ y ∷ z ∷ []) (join R (weigh R unit h3) (join R (weigh R unit h4) (join R (weigh R (z ⊗ f) h2) (weigh R z h1)))) (search reads depth 40 fits 4000) none_left
