-- What an outage leaves of a network.
use Rattle.std.proofs.Common.{◌≡◌, ◌≢◌, ◌∙◌, ℕ, ◌+◌, ◌≤◌, ◌<◌, ◌==◌, Bool, true, false, List, [], ◌∷◌, length, refl, ap, sym, subst, arith}
use Rattle.std.specs.Prelude.{map}
use Rattle.std.specs.List.{filter, AllByRecursion}
use Rattle.std.proofs.lemmas.Bool.Decides.{nat_tests}
use Rattle.network_theory.specs.Branch.{Branch as ExactBranch}
use Rattle.network_theory.specs.Network.{Network as ExactNetwork, IsWhole, IsGroup, IsGrouped, IsUncoupled, done, alone, group}
use Rattle.net_branch.specs.declared.network.Branch.{Branch}
use Rattle.net_branch.specs.declared.network.Network.{Network}
use Rattle.net_branch.specs.Exact.{exact_branch, exact_network}
use Rattle.net_branch.specs.Whole.{IsWholeNetwork}
use Rattle.sequence_network.specs.Owners.{owned_by}
use Rattle.study_variants.specs.Outages.{is_others, others_in, without, OutageOfElement}

-- the same of exact branches
abbrev pub exact_others : ℕ → List ExactBranch → List ExactBranch
exact_others number bs = filter (λ b. is_others number b.owner) bs

map_others : (number : ℕ) (bs : List Branch) → map exact_branch (others_in number bs) ≡ exact_others number (map exact_branch bs)
map_others number [] = refl
map_others number (b ∷ bs) = by (is_others number b.owner) refl (map_others number bs)
  where
    by : (t : Bool) → is_others number b.owner ≡ t → map exact_branch (others_in number bs) ≡ exact_others number (map exact_branch bs)
        → map exact_branch (others_in number (b ∷ bs)) ≡ exact_others number (map exact_branch (b ∷ bs))
    by true e rest = rw e (ap (λ (l : List ExactBranch). exact_branch b ∷ l) rest)
    by false e rest = rw e rest

pub outage_exact : (number : ℕ) (network : Network) → exact_network (record network { branches = others_in number network.branches }) ≡ without number (exact_network network)
outage_exact number network = ap (λ bs. record { buses = network.buses; nodes = network.nodes; branches = bs }) (map_others number network.branches)

-- what holds of each branch holds of each that is left
each_left : {X : Type 0} (P : X → Type 0) (t : X → Bool) (xs : List X) → AllByRecursion P xs → AllByRecursion P (filter t xs)
each_left P t [] h = tt
each_left P t (x ∷ xs) h = by (t x) refl (each_left P t xs h.1)
  where
    by : (b : Bool) → t x ≡ b → AllByRecursion P (filter t xs) → AllByRecursion P (filter t (x ∷ xs))
    by true e rest = rw e (h.0, rest)
    by false e rest = rw e rest

few_left : {X : Type 0} (t : X → Bool) (xs : List X) → length (filter t xs) ≤ length xs
few_left t [] = omega arith
few_left t (x ∷ xs) = by (t x) refl (few_left t xs)
  where
    by : (b : Bool) → t x ≡ b → length (filter t xs) ≤ length xs → length (filter t (x ∷ xs)) ≤ length (x ∷ xs)
    by true e rest = rw e (omega (arith, rest))
    by false e rest = rw e (omega (arith, rest))

-- one branch that is left or goes
alone_left : (number : ℕ) (b : ExactBranch) (bs : List ExactBranch) → IsUncoupled b → IsGrouped (exact_others number bs) → IsGrouped (exact_others number (b ∷ bs))
alone_left number b bs u rest = by (is_others number b.owner) refl
  where
    by : (t : Bool) → is_others number b.owner ≡ t → IsGrouped (exact_others number (b ∷ bs))
    by true e = rw e (alone b (exact_others number bs) u rest)
    by false e = rw e rest

-- a group is left whole or goes whole, since its branches have one owner
group_left : (number : ℕ) (a b c : ExactBranch) (bs : List ExactBranch) → IsGroup a b c → AllByRecursion (λ o. o.group ≢ a.group) bs → IsGrouped (exact_others number bs)
    → IsGrouped (exact_others number (a ∷ b ∷ c ∷ bs))
group_left number a b c bs three apart rest = by (is_others number a.owner) refl
  where
    by : (t : Bool) → is_others number a.owner ≡ t → IsGrouped (exact_others number (a ∷ b ∷ c ∷ bs))
    by true e =
        let second : is_others number b.owner ≡ true = ap (is_others number) three.owner_second ∙ e in
        let third : is_others number c.owner ≡ true = ap (is_others number) three.owner_third ∙ e in
        rw (e, second, third) (group a b c (exact_others number bs) three (each_left (λ o. o.group ≢ a.group) (λ o. is_others number o.owner) bs apart) rest)
    by false e =
        let second : is_others number b.owner ≡ false = ap (is_others number) three.owner_second ∙ e in
        let third : is_others number c.owner ≡ false = ap (is_others number) three.owner_third ∙ e in
        rw (e, second, third) rest

grouped_left : (number : ℕ) (bs : List ExactBranch) → IsGrouped bs → IsGrouped (exact_others number bs)
grouped_left number _ done = done
grouped_left number _ (alone b rest u g) = alone_left number b rest u (grouped_left number rest g)
grouped_left number _ (group a b c rest three apart g) = group_left number a b c rest three apart (grouped_left number rest g)

exact_whole : (number : ℕ) (network : ExactNetwork) → IsWhole network → IsWhole (without number network)
exact_whole number network w = record {
  buses = w.buses;
  taps = each_left (λ b. AllByRecursion (λ t. t.node < network.nodes) b.taps) (λ b. is_others number b.owner) network.branches w.taps;
  groups = grouped_left number network.branches w.groups;
}

pub outage_whole : (number : ℕ) (network : Network) → IsWholeNetwork network → IsWholeNetwork (record network { branches = others_in number network.branches })
outage_whole number network w = record {
  limits = record { nodes = w.limits.nodes; branches = omega (arith, few_left (λ (b : Branch). is_others number b.owner) network.branches, w.limits.branches) };
  exact = subst IsWhole (sym (outage_exact number network)) (exact_whole number (exact_network network) w.exact);
}

-- ---- whose the branches are
none_left : (number : ℕ) (bs : List ExactBranch) → owned_by number (exact_others number bs) ≡ []
none_left number [] = refl
none_left number (b ∷ bs) = by (b.owner == number) refl (none_left number bs)
  where
    by : (t : Bool) → (b.owner == number) ≡ t → owned_by number (exact_others number bs) ≡ [] → owned_by number (exact_others number (b ∷ bs)) ≡ []
    by true e rest = rw e rest
    by false e rest = rw (e, e) rest

owned_left : (number k : ℕ) → k ≢ number → (bs : List ExactBranch) → owned_by k (exact_others number bs) ≡ owned_by k bs
owned_left number k d [] = refl
owned_left number k d (b ∷ bs) = by (b.owner == number) (b.owner == k) refl refl (owned_left number k d bs)
  where
    by : (t s : Bool) → (b.owner == number) ≡ t → (b.owner == k) ≡ s → owned_by k (exact_others number bs) ≡ owned_by k bs → owned_by k (exact_others number (b ∷ bs)) ≡ owned_by k (b ∷ bs)
    by true true e o rest =
        let is : b.owner ≡ number = grind (arith, nat_tests, e) in
        let too : b.owner ≡ k = grind (arith, nat_tests, o) in
        absurd (d (sym too ∙ is))
    by true false e o rest = rw (e, o) rest
    by false true e o rest = rw (e, o) (ap (λ (l : List ExactBranch). b ∷ l) rest)
    by false false e o rest = rw (e, o) rest

pub outage_of_element : OutageOfElement
outage_of_element added start es network out own = record {
  none = none_left (out + 1) network.branches;
  each = λ place e d f. owned_left (out + 1) (place + 1) (λ same. d (omega (arith, same))) network.branches ∙ own.each place e f;
  others = each_left (λ b. (1 ≤ b.owner) × (b.owner ≤ length es)) (λ b. is_others (out + 1) b.owner) network.branches own.others;
}
