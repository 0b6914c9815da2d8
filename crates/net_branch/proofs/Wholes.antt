-- What whole networks, and networks that are being built, keep.
use Rattle.std.proofs.Common.{◌≡◌, ◌≢◌, ℕ, ◌+◌, ◌≤◌, ◌<◌, true, false, List, [], ◌∷◌, ◌++◌, length, refl, sym, ap, subst, ◌∙◌, arith}
use Rattle.std.specs.Prelude.{map, nat_lt}
use Rattle.std.specs.List.{AllByRecursion, list_all}
use Rattle.std.proofs.lemmas.Bool.{and_parts, ltb-true}
use Rattle.std.proofs.lemmas.List.{append-nil, map-append, length-append}
use Rattle.network_theory.specs.Branch.{Law as ExactLaw, Series as ExactSeries, Shunt as ExactShunt, Coupled3 as ExactCoupled3, Branch as ExactBranch}
use Rattle.network_theory.specs.Network.{IsGroup, IsGrouped, IsUncoupled, done, alone, group}
use Rattle.net_branch.specs.declared.limits.TheConstants.{MAX_NODES, MAX_BRANCHES}
use Rattle.net_branch.specs.declared.network.Tap.{Tap}
use Rattle.net_branch.specs.declared.network.Branch.{Branch}
use Rattle.net_branch.specs.declared.network.Network.{Network}
use Rattle.net_branch.specs.Exact.{exact_tap, exact_branch}
use Rattle.net_branch.specs.Refusal.{is_at_nodes, is_zero_law, IsElement}
use Rattle.net_branch.specs.Whole.{IsWholeNetwork, AreAtNodes, IsGrouping, IsGrowing}

-- what holds of each element of two lists holds of each of their sum
pub each_append : {X : Type 0} (P : X → Type 0) (xs ys : List X) → AllByRecursion P xs → AllByRecursion P ys → AllByRecursion P (xs ++ ys)
each_append P [] ys h k = k
each_append P (x ∷ xs) ys h k = (h.0, each_append P xs ys h.1 k)

pub each_weaker : {X : Type 0} (P Q : X → Type 0) → ((x : X) → P x → Q x) → (xs : List X) → AllByRecursion P xs → AllByRecursion Q xs
each_weaker P Q f [] h = tt
each_weaker P Q f (x ∷ xs) h = (f x h.0, each_weaker P Q f xs h.1)

-- taps at nodes

pub each_map : {X Y : Type 0} (P : Y → Type 0) (f : X → Y) (xs : List X) → AllByRecursion (λ x. P (f x)) xs → AllByRecursion P (map f xs)
each_map P f [] h = tt
each_map P f (x ∷ xs) h = (h.0, each_map P f xs h.1)

each_from_map : {X Y : Type 0} (P : Y → Type 0) (f : X → Y) (xs : List X) → AllByRecursion P (map f xs) → AllByRecursion (λ x. P (f x)) xs
each_from_map P f [] h = tt
each_from_map P f (x ∷ xs) h = (h.0, each_from_map P f xs h.1)

-- the taps of an exact network's branches are at nodes exactly where those of the network's are
exact_at_nodes : (nodes : ℕ) (bs : List Branch) → AreAtNodes nodes bs → AllByRecursion (λ b. AllByRecursion (λ t. t.node < nodes) b.taps) (map exact_branch bs)
exact_at_nodes nodes [] h = tt
exact_at_nodes nodes (b ∷ bs) h = (each_map (λ t. t.node < nodes) exact_tap b.taps h.0, exact_at_nodes nodes bs h.1)

pub at_nodes_exact : (nodes : ℕ) (bs : List Branch) → AllByRecursion (λ b. AllByRecursion (λ t. t.node < nodes) b.taps) (map exact_branch bs) → AreAtNodes nodes bs
at_nodes_exact nodes [] h = tt
at_nodes_exact nodes (b ∷ bs) h = (each_from_map (λ t. t.node < nodes) exact_tap b.taps h.0, at_nodes_exact nodes bs h.1)

pub at_more_nodes : (nodes more : ℕ) → nodes ≤ more → (bs : List Branch) → AreAtNodes nodes bs → AreAtNodes more bs
at_more_nodes nodes more l bs h = each_weaker _ _ (λ b k. each_weaker _ _ (λ t m. omega arith) b.taps k) bs h

tested_taps : (nodes : ℕ) (ts : List Tap) → list_all (λ t. nat_lt t.node.number nodes) ts ≡ true → AllByRecursion (λ t. t.node.number < nodes) ts
tested_taps nodes [] h = tt
tested_taps nodes (t ∷ ts) h =
    let parts = and_parts (nat_lt t.node.number nodes) (list_all (λ t. nat_lt t.node.number nodes) ts) h in
    (ltb-true t.node.number nodes parts.0, tested_taps nodes ts parts.1)

-- groups

-- a group's number isn't that of a branch of another list, none of whose groups' numbers is the first list's
apart_first : (a : ExactBranch) (xs ys : List ExactBranch) → a.group ≢ 0
    → AllByRecursion (λ y. y.group ≢ 0 → AllByRecursion (λ o. o.group ≢ y.group) (a ∷ xs)) ys
    → AllByRecursion (λ y. y.group ≢ a.group) ys
apart_first a xs ys n h = each_weaker _ _ (λ y k e. (k (λ z. n (sym e ∙ z))).0 (sym e)) ys h

apart_rest : (a : ExactBranch) (xs ys : List ExactBranch)
    → AllByRecursion (λ y. y.group ≢ 0 → AllByRecursion (λ o. o.group ≢ y.group) (a ∷ xs)) ys
    → AllByRecursion (λ y. y.group ≢ 0 → AllByRecursion (λ o. o.group ≢ y.group) xs) ys
apart_rest a xs ys h = each_weaker _ _ (λ y k n. (k n).1) ys h

-- two lists of uncoupled branches and complete groups make one, where the groups' numbers are apart
pub grouped_append : (xs ys : List ExactBranch) → IsGrouped xs → IsGrouped ys
    → AllByRecursion (λ y. y.group ≢ 0 → AllByRecursion (λ o. o.group ≢ y.group) xs) ys
    → IsGrouped (xs ++ ys)
grouped_append xs ys done k h = k
grouped_append xs ys (alone b bs u g) k h = alone b (bs ++ ys) u (grouped_append bs ys g k (apart_rest b bs ys h))
grouped_append xs ys (group a b c bs g r s) k h =
    let h1 = apart_rest a (b ∷ c ∷ bs) ys h in
    let h2 = apart_rest b (c ∷ bs) ys h1 in
    group a b c (bs ++ ys) g
    (each_append (λ o. o.group ≢ a.group) bs ys r (apart_first a (b ∷ c ∷ bs) ys g.number h))
    (grouped_append bs ys s k (apart_rest c bs ys h2))

-- a network with nothing but bus nodes
pub empty_whole : (network : Network) → network.branches ≡ [] → network.buses ≤ network.nodes → network.nodes ≤ MAX_NODES → IsWholeNetwork network
empty_whole network e l m = record {
  limits = record { nodes = m; branches = subst (λ bs. length bs ≤ MAX_BRANCHES) (sym e) (omega arith) };
  exact = record {
    buses = l;
    taps = subst (λ bs. AllByRecursion (λ b. AllByRecursion (λ t. t.node < network.nodes) b.taps) (map exact_branch bs)) (sym e) tt;
    groups = subst (λ bs. IsGrouped (map exact_branch bs)) (sym e) done;
  };
}

-- a network that is being built is whole where no group is incomplete
pub grown_whole : (network : Network) → IsGrowing network → IsGrouped (map exact_branch network.branches) → IsWholeNetwork network
grown_whole network g h = record {
  limits = g.limits;
  exact = record { buses = g.buses; taps = exact_at_nodes network.nodes network.branches g.taps; groups = h };
}

pub whole_growing : (network : Network) → IsWholeNetwork network → IsGrowing network
whole_growing network w = record {
  limits = w.limits;
  buses = w.exact.buses;
  taps = at_nodes_exact network.nodes network.branches w.exact.taps;
  groups = record { lacking = []; few = omega arith; grouped = subst IsGrouped (sym (append-nil (map exact_branch network.branches))) w.exact.groups };
}

-- a branch that isn't refused and is the next of a group, uncoupled, or the first of a new group keeps a network growing
pub pushed_growing : (network : Network) (b : Branch) → IsGrowing network → IsGrouping (network.branches ++ b ∷ []) → is_at_nodes network.nodes b ≡ true → length network.branches < MAX_BRANCHES
    → IsGrowing (record network { branches = network.branches ++ b ∷ [] })
pushed_growing network b g next at l = record {
  limits = record { nodes = g.limits.nodes; branches = simp length-append (omega arith) };
  buses = g.buses;
  taps = each_append (λ o. AllByRecursion (λ t. t.node.number < network.nodes) o.taps) network.branches (b ∷ []) g.taps (tested_taps network.nodes b.taps at, tt);
  groups = next;
}

-- an element keeps a network whole
pub element_whole : (network : Network) (inner : ℕ) (bs : List Branch) → IsWholeNetwork network → IsElement network inner bs → network.nodes + inner ≤ MAX_NODES → length network.branches + length bs ≤ MAX_BRANCHES
    → IsWholeNetwork (record network { nodes = network.nodes + inner; branches = network.branches ++ bs })
element_whole network inner bs w e l m = record {
  limits = record { nodes = l; branches = simp length-append m };
  exact = record {
    buses = omega (arith, w.exact.buses);
    taps = exact_at_nodes (network.nodes + inner) (network.branches ++ bs)
        (each_append (λ o. AllByRecursion (λ t. t.node.number < network.nodes + inner) o.taps) network.branches bs
        (at_more_nodes network.nodes (network.nodes + inner) (omega arith) network.branches (at_nodes_exact network.nodes network.branches w.exact.taps))
        e.taps);
    groups = subst IsGrouped (sym (map-append exact_branch network.branches bs))
        (grouped_append (map exact_branch network.branches) (map exact_branch bs) w.exact.groups e.groups
        (each_map (λ y. y.group ≢ 0 → AllByRecursion (λ o. o.group ≢ y.group) (map exact_branch network.branches)) exact_branch bs
        (each_weaker _ _ (λ b k n. each_map (λ o. o.group ≢ b.group) exact_branch network.branches (k n)) bs e.apart)));
  };
}

-- what a caller that adds branches shows

uncoupled_zero : (b : ExactBranch) → IsUncoupled b → b.group ≡ 0
uncoupled_zero b u = go b.law u
  where
    go : (l : ExactLaw) → elim l as (λ z. Type 0) [ ExactSeries r k m x xc ↦ b.group ≡ 0 | ExactShunt y ↦ b.group ≡ 0 | ExactCoupled3 place c ↦ ⊥ ] → b.group ≡ 0
    go (ExactSeries r k m x xc) h = h
    go (ExactShunt y) h = h
    go (ExactCoupled3 place c) h = absurd h

-- an uncoupled branch after complete groups
pub uncoupled_grouped : (bs : List Branch) (b : Branch) → IsGrouped (map exact_branch bs) → IsUncoupled (exact_branch b) → IsGrouped (map exact_branch (bs ++ b ∷ []))
uncoupled_grouped bs b g u =
    subst IsGrouped (sym (map-append exact_branch bs (b ∷ [])))
    (grouped_append (map exact_branch bs) (exact_branch b ∷ []) g (alone (exact_branch b) [] u done)
    (λ n. absurd (n (uncoupled_zero (exact_branch b) u)), tt))

-- complete groups alone
pub grouped_grouping : (bs : List Branch) → IsGrouped (map exact_branch bs) → IsGrouping bs
grouped_grouping bs g = record { lacking = []; few = omega arith; grouped = subst IsGrouped (sym (append-nil (map exact_branch bs))) g }

-- an uncoupled branch may come next in a whole network
pub uncoupled_next : (network : Network) (b : Branch) → IsWholeNetwork network → IsUncoupled (exact_branch b) → IsGrouping (network.branches ++ b ∷ [])
uncoupled_next network b w u = grouped_grouping (network.branches ++ b ∷ []) (uncoupled_grouped network.branches b w.exact.groups u)

-- a group of its own number that comes after complete groups
pub group_grouped : (bs : List Branch) (a b c : Branch) → IsGrouped (map exact_branch bs) → IsGroup (exact_branch a) (exact_branch b) (exact_branch c)
    → AllByRecursion (λ o. o.group ≢ a.group) bs
    → IsGrouped (map exact_branch bs ++ exact_branch a ∷ exact_branch b ∷ exact_branch c ∷ [])
group_grouped bs a b c g three apart =
    let others = each_map (λ o. o.group ≢ a.group) exact_branch bs apart in
    grouped_append (map exact_branch bs) (exact_branch a ∷ exact_branch b ∷ exact_branch c ∷ []) g
    (group (exact_branch a) (exact_branch b) (exact_branch c) [] three tt done) (
      λ n. others,
      (
        λ n. each_weaker _ _ (λ o k e. k (e ∙ three.same_second)) (map exact_branch bs) others,
        (λ n. each_weaker _ _ (λ o k e. k (e ∙ three.same_third)) (map exact_branch bs) others, tt),
      ),
    )

-- uncoupled branches make no group
pub all_uncoupled : (bs : List Branch) → AllByRecursion (λ b. IsUncoupled (exact_branch b)) bs → IsGrouped (map exact_branch bs)
all_uncoupled [] u = done
all_uncoupled (b ∷ bs) u = alone (exact_branch b) (map exact_branch bs) u.0 (all_uncoupled bs u.1)

-- an element of uncoupled branches
pub uncoupled_element : (network : Network) (inner : ℕ) (bs : List Branch) → AreAtNodes (network.nodes + inner) bs → AllByRecursion (λ b. IsUncoupled (exact_branch b)) bs → AllByRecursion (λ b. is_zero_law b.law ≡ false) bs
    → IsElement network inner bs
uncoupled_element network inner bs taps u laws = record {
  taps = taps;
  groups = all_uncoupled bs u;
  apart = each_weaker (λ b. IsUncoupled (exact_branch b)) (λ b. b.group ≢ 0 → AllByRecursion (λ o. o.group ≢ b.group) network.branches)
      (λ b k n. absurd (n (uncoupled_zero (exact_branch b) k))) bs u;
  laws = laws;
}

pub mapped_push : (bs : List Branch) (a : Branch) (rest : List ExactBranch) → map exact_branch (bs ++ a ∷ []) ++ rest ≡ map exact_branch bs ++ exact_branch a ∷ rest
mapped_push [] a rest = refl
mapped_push (b ∷ bs) a rest = ap (λ z. exact_branch b ∷ z) (mapped_push bs a rest)

-- the three branches of a group, of a number that no branch has, come one after another
module _ (bs : List Branch) (a b c : Branch) (complete : IsGrouped (map exact_branch bs)) (three : IsGroup (exact_branch a) (exact_branch b) (exact_branch c)) (apart : AllByRecursion (λ o. o.group ≢ a.group) bs) where
  pub group_first : IsGrouping (bs ++ a ∷ [])
  group_first = record {
    lacking = exact_branch b ∷ exact_branch c ∷ [];
    few = omega arith;
    grouped = subst IsGrouped (sym (mapped_push bs a (exact_branch b ∷ exact_branch c ∷ []))) (group_grouped bs a b c complete three apart);
  }

  pub group_second : IsGrouping (bs ++ a ∷ [] ++ b ∷ [])
  group_second = record {
    lacking = exact_branch c ∷ [];
    few = omega arith;
    grouped = subst IsGrouped (sym (mapped_push (bs ++ a ∷ []) b (exact_branch c ∷ []) ∙ mapped_push bs a (exact_branch b ∷ exact_branch c ∷ []))) (group_grouped bs a b c complete three apart);
  }

  pub group_third : IsGrouped (map exact_branch (bs ++ a ∷ [] ++ b ∷ [] ++ c ∷ []))
  group_third =
      subst IsGrouped
      (sym (sym (append-nil (map exact_branch (bs ++ a ∷ [] ++ b ∷ [] ++ c ∷ []))) ∙ mapped_push (bs ++ a ∷ [] ++ b ∷ []) c [] ∙ mapped_push (bs ++ a ∷ []) b (exact_branch c ∷ []) ∙ mapped_push bs a (exact_branch b ∷ exact_branch c ∷ [])))
      (group_grouped bs a b c complete three apart)
