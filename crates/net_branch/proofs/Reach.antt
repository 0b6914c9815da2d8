-- Marked nodes are live, and where nothing is left to mark they are all live nodes.
use Rattle.std.proofs.Common.{◌≡◌, ℕ, zero, suc, ◌+◌, ◌≤◌, ◌<◌, Bool, true, false, cond, List, [], ◌∷◌, length, get_or, set, refl, sym, ap, subst, ◌∙◌, arith, ◌⊎◌, inl, inr}
use Rattle.std.specs.Prelude.{map, not, Contains, All, IsTrue}
use Rattle.std.specs.List.{AllByRecursion}
use Rattle.std.proofs.lemmas.Bool.{cases_eq, cases_Bool, false≢true}
use Rattle.std.proofs.lemmas.List.{length-map, get_or-map, get_or-set_other}
use Rattle.std.proofs.lemmas.List.Elements.{All-contains, All-from_recursion}
use Rattle.std.proofs.lemmas.List.Sums.{sum_by-set}
use Rattle.network_theory.specs.Branch.{Tap as ExactTap}
use Rattle.network_theory.specs.Live.{Live, grounded, joined}
use Rattle.network_theory.specs.Laws.{IsClosed}
use Rattle.network_theory.proofs.Stated.{live_is_least}
use Rattle.net_branch.specs.declared.network.Tap.{Tap}
use Rattle.net_branch.specs.declared.network.Branch.{Branch}
use Rattle.net_branch.specs.declared.network.Network.{Network}
use Rattle.net_branch.specs.Exact.{exact_tap, exact_branch, exact_network}
use Rattle.net_branch.specs.Marks.{IsMarked, AreMarked, unmarked, HasTapAt, tap_at, IsReached, one, beside, IsFilled, AreFound, AreValued}
use Rattle.net_branch.specs.LiveNodes.{AreLive}
use Rattle.net_branch.specs.Whole.{IsWholeNetwork}
use Rattle.net_branch.proofs.Wholes.{each_weaker, at_nodes_exact}

-- an element of a mapped list, and the element that it is the image of
record Image {X Y : Type 0} (f : X → Y) (xs : List X) (y : Y) : Type 0 where
  item : X
  has : Contains xs item
  is : f item ≡ y

image_go : {X Y : Type 0} (f : X → Y) (x : X) (xs : List X) (y : Y) → (Contains (map f xs) y → Image f xs y) → (k : ℕ) → k < suc (length (map f xs)) → get_or (f x ∷ map f xs) k y ≡ y → Image f (x ∷ xs) y
image_go f x xs y more zero l e = record { item = x; has = (0, omega arith, refl); is = e }
image_go f x xs y more (suc k) l e =
    let r = more (k, omega arith, e) in
    record { item = r.item; has = (suc r.has.0, omega (arith, r.has.1), r.has.2); is = r.is }

image : {X Y : Type 0} (f : X → Y) (xs : List X) (y : Y) → Contains (map f xs) y → Image f xs y
image f [] y c = absurd (omega (arith, c.1))
image f (x ∷ xs) y c = image_go f x xs y (image f xs y) c.0 c.1 c.2

contains_map : {X Y : Type 0} (f : X → Y) (xs : List X) (x : X) → Contains xs x → Contains (map f xs) (f x)
contains_map f xs x c = (c.0, omega (arith, length-map xs f, c.1), get_or-map f xs c.0 x (f x) c.1 ∙ ap f c.2)

-- a list of one element
single : {X : Type 0} (xs : List X) (x : X) → length xs ≡ 1 → Contains xs x → xs ≡ x ∷ []
single [] x l c = absurd (omega arith)
single (y ∷ []) x l c = only c.0 c.1 c.2
  where
    only : (k : ℕ) → k < 1 → get_or (y ∷ []) k x ≡ x → y ∷ [] ≡ x ∷ []
    only zero h e = ap (λ z. z ∷ []) e
    only (suc k) h e = absurd (omega arith)
single (y ∷ z ∷ xs) x l c = absurd (omega arith)

-- a tap of a branch that is reached is at a live node, where each marked node is live
pub reached_live : (network : Network) (marks : List Bool) → AreFound network marks → (b : Branch) → Contains network.branches b → IsReached b.taps marks → (n : ℕ) → HasTapAt b.taps n → Live (exact_network network) n
reached_live network marks found b has (one l) n (tap_at t c) =
    grounded (exact_branch b) (exact_tap t) (contains_map exact_branch network.branches b has) (ap (λ ts. map exact_tap ts) (single b.taps t l c))
reached_live network marks found b has (beside u d m) n (tap_at t c) =
    joined (exact_branch b) (exact_tap u) (exact_tap t) (contains_map exact_branch network.branches b has)
    (contains_map exact_tap b.taps u d) (contains_map exact_tap b.taps t c) (found u.node.number m)

marked_tap : (marks : List Bool) (ts : List Tap) → AreMarked marks ts → (t : ExactTap) → Contains (map exact_tap ts) t → IsTrue (get_or marks t.node false)
marked_tap marks ts h t c =
    let i = image exact_tap ts t c in
    subst (λ u. IsTrue (get_or marks u.node false)) i.is (All-contains (λ u. IsMarked marks u.node.number) ts i.item h i.has)

-- where each branch that is reached is filled, the marked nodes are closed
pub filled_closed : (network : Network) (marks : List Bool) → All (IsFilled marks) network.branches → IsClosed (exact_network network) (λ n. get_or marks n false)
filled_closed network marks h = record {
  grounded = λ b t c e.
      let i = image exact_branch network.branches b c in
      let k : map exact_tap i.item.taps ≡ t ∷ [] = ap (λ z. z.taps) i.is ∙ e in
      let l : length i.item.taps ≡ 1 = omega (arith, length-map i.item.taps exact_tap, ap length k) in
      marked_tap marks i.item.taps (All-contains (IsFilled marks) network.branches i.item h i.has (one l)) t
      (subst (λ ts. Contains ts t) (sym k) (0, omega arith, refl));
  joined = λ b t u c d e m.
      let i = image exact_branch network.branches b c in
      let j = image exact_tap i.item.taps t (subst (λ z. Contains z.taps t) (sym i.is) d) in
      marked_tap marks i.item.taps
      (All-contains (IsFilled marks) network.branches i.item h i.has
      (beside j.item j.has (subst (λ z. IsTrue (get_or marks z.node false)) (sym j.is) m)))
      u (subst (λ z. Contains z.taps u) (sym i.is) e);
}

-- the live nodes, where each marked node is live and each branch that is reached is filled
pub marked_live : (network : Network) (marks : List Bool) → length marks ≡ network.nodes → AreFound network marks → All (IsFilled marks) network.branches → AreLive network marks
marked_live network marks l found filled = record {
  count = l;
  each = λ n k. (found n, λ v. live_is_least (exact_network network) (λ m. get_or marks m false) (filled_closed network marks filled) n v);
}

-- the node of one more tap is marked
pub mark_only : (taps : List Tap) (i : ℕ) (tap : Tap) → i < length taps → tap ≡ get_or taps i tap → (before marks : List Bool)
    → ((n : ℕ) → IsMarked marks n → IsMarked before n ⊎ HasTapAt taps n)
    → (n : ℕ) → IsMarked (set marks tap.node.number true) n → IsMarked before n ⊎ HasTapAt taps n
mark_only taps i tap l e before marks h n m = elim (cases_eq n tap.node.number) [
  | inl q ↦ inr (subst (HasTapAt taps) (sym q) (tap_at tap (i, l, sym e)))
  | inr q ↦ h n (subst IsTrue (get_or-set_other marks tap.node.number n true false q) m)
]

pub mark_fewer : (marks : List Bool) (at : ℕ) → at < length marks → get_or marks at false ≡ false → unmarked (set marks at true) < unmarked marks
mark_fewer marks at l e =
    let sums = sum_by-set (λ x. cond (not x) 1 0) marks at true false l in
    let one_less : unmarked (set marks at true) + 1 ≡ unmarked marks + 0 = subst (λ v. unmarked (set marks at true) + cond (not v) 1 0 ≡ unmarked marks + 0) e sums in
    omega arith

-- marks that are still as they were, or more of them
pub no_fewer : (before marks : List Bool) (grew : Bool) → (grew ≡ false → marks ≡ before) → (grew ≡ true → unmarked marks < unmarked before) → unmarked marks ≤ unmarked before
no_fewer before marks grew s m = elim (cases_Bool grew) [
  | inl e ↦ let k = m e in omega arith
  | inr e ↦ omega (arith, ap unmarked (s e))
]

pub not_reached : (taps : List Tap) (marks : List Bool) → (length taps ≡ 1 → ⊥) → All (λ t. get_or marks t.node.number false ≡ false) taps → IsReached taps marks → ⊥
not_reached taps marks n h (one l) = n l
not_reached taps marks n h (beside t c m) = false≢true (sym (All-contains (λ u. get_or marks u.node.number false ≡ false) taps t h c) ∙ m)

-- there is a value for each node of a branch of a whole network
pub valued : (network : Network) → IsWholeNetwork network → (marks : List Bool) → length marks ≡ network.nodes → All (λ b. AreValued marks b.taps) network.branches
valued network w marks l =
    All-from_recursion (λ b. AreValued marks b.taps) network.branches
    (each_weaker (λ b. AllByRecursion (λ t. t.node.number < network.nodes) b.taps) (λ b. AreValued marks b.taps)
    (λ b h. All-from_recursion (λ t. t.node.number < length marks) b.taps (subst (λ n. AllByRecursion (λ t. t.node.number < n) b.taps) (sym l) h))
    network.branches (at_nodes_exact network.nodes network.branches w.exact.taps))
