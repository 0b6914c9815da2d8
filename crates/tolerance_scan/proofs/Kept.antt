-- What widening leaves as it is.
use Rattle.std.proofs.Common.{◌≡◌, ◌≢◌, ◌∙◌, ℕ, ◌+◌, ◌≤◌, ◌<◌, ◌==◌, Bool, true, false, List, [], ◌∷◌, length, take, take_all, get_or, zero, suc, ◌++◌, refl, ap, ap₂, sym, subst, arith}
use Rattle.std.proofs.lemmas.Bool.Decides.{nat_tests}
use Rattle.std.proofs.Math.Seq.{take-suc}
use Rattle.std.proofs.lemmas.List.{length-map, map-append}
use Rattle.std.specs.Prelude.{map, if◌then◌else◌}
use Rattle.std.specs.List.{AllByRecursion}
use Rattle.network_theory.specs.Branch.{Law, Series, Shunt, Coupled3, Coupling, Branch}
use Rattle.network_theory.specs.Network.{Network, IsWhole, IsGroup, IsGrouped, IsUncoupled, HasPlace, done, alone, group}
use Rattle.net_branch.specs.Exact.{exact_branch, exact_network}
use Rattle.net_branch.specs.Whole.{IsWholeNetwork}
use Rattle.net_branch.specs.declared.network.Branch.{Branch as BuiltBranch}
use Rattle.net_branch.specs.declared.network.Network.{Network as BuiltNetwork}
use Rattle.net_branch.proofs.Wholes.{each_map, each_weaker}
use Rattle.tolerance_scan.specs.Small.{HasSmallValues, IsWidenable}
use Rattle.tolerance_scan.specs.Widened.{factor_of, widened_law, widened_branch, widened}

-- ---- wholeness
-- a branch that stands alone
alone_law : (b : Branch) (l : Law) (factor : ℕ) (own : Bool) → IsUncoupled (record b { law = l }) → IsUncoupled (record b { law = if own then widened_law factor l else l })
alone_law b (Series r k m x xc) factor true h = h
alone_law b (Series r k m x xc) factor false h = h
alone_law b (Shunt y) factor true h = h
alone_law b (Shunt y) factor false h = h
alone_law b (Coupled3 place c) factor own h = absurd h

-- a coupled branch stays
coupled_law : (l : Law) (place factor : ℕ) (c : Coupling) (own : Bool) → l ≡ Coupled3 place c → (if own then widened_law factor l else l) ≡ Coupled3 place c
coupled_law l place factor c true e = ap (widened_law factor) e
coupled_law l place factor c false e = e

place_kept : (owner factor : ℕ) (b : Branch) (place : ℕ) → HasPlace b place → HasPlace (widened_branch owner factor b) place
place_kept owner factor b place h = record { values = h.values; law = coupled_law b.law place factor h.values (b.owner == owner) h.law }

group_kept : (owner factor : ℕ) (a b c : Branch) → IsGroup a b c → IsGroup (widened_branch owner factor a) (widened_branch owner factor b) (widened_branch owner factor c)
unfolding place_kept
group_kept owner factor a b c h = record {
  first = place_kept owner factor a 0 h.first;
  second = place_kept owner factor b 1 h.second;
  third = place_kept owner factor c 2 h.third;
  equal_second = h.equal_second;
  equal_third = h.equal_third;
  number = h.number;
  same_second = h.same_second;
  same_third = h.same_third;
  owner_second = h.owner_second;
  owner_third = h.owner_third;
}

grouped_kept : (owner factor : ℕ) (bs : List Branch) → IsGrouped bs → IsGrouped (map (widened_branch owner factor) bs)
grouped_kept owner factor _ done = done
grouped_kept owner factor _ (alone b rest u g) = alone (widened_branch owner factor b) _ (alone_law b b.law factor (b.owner == owner) u) (grouped_kept owner factor rest g)
grouped_kept owner factor _ (group a b c rest three apart g) =
    group (widened_branch owner factor a) (widened_branch owner factor b) (widened_branch owner factor c) _ (group_kept owner factor a b c three)
    (each_map (λ o. o.group ≢ a.group) (widened_branch owner factor) rest apart) (grouped_kept owner factor rest g)

pub whole_kept : (owner permille : ℕ) (upward : Bool) (network : Network) → IsWhole network → IsWhole (widened owner permille upward network)
whole_kept owner permille upward network w = record {
  buses = w.buses;
  taps = each_map (λ b. AllByRecursion (λ t. t.node < network.nodes) b.taps) (widened_branch owner (factor_of permille upward)) network.branches w.taps;
  groups = grouped_kept owner (factor_of permille upward) network.branches w.groups;
}

-- ---- the values of other owners
others_law : (owner other factor : ℕ) (b : Branch) → other ≢ owner → (b.owner ≡ other → HasSmallValues b.law) → b.owner ≡ other → HasSmallValues (widened_branch owner factor b).law
others_law owner other factor b d h e =
    let not_own : (b.owner == owner) ≡ false = grind (arith, nat_tests, d, e) in
    rw not_own (h e)

pub others_kept : (owner permille : ℕ) (upward : Bool) (other : ℕ) (network : Network) → other ≢ owner → IsWidenable other network → IsWidenable other (widened owner permille upward network)
others_kept owner permille upward other network d h =
    let factor = factor_of permille upward in
    each_map (λ b. b.owner ≡ other → HasSmallValues b.law) (widened_branch owner factor) network.branches
    (each_weaker (λ b. b.owner ≡ other → HasSmallValues b.law) (λ b. b.owner ≡ other → HasSmallValues (widened_branch owner factor b).law) (λ b. others_law owner other factor b d) network.branches h)

-- ---- networks as they are built
-- the branches of an owner, each by itself
pub widenable_at : (owner i : ℕ) (bs : List BuiltBranch) (b : BuiltBranch) → i < length bs → b ≡ get_or bs i b → AllByRecursion (λ o. o.owner ≡ owner → HasSmallValues o.law) (map exact_branch bs)
    → b.owner ≡ owner → HasSmallValues (exact_branch b).law
widenable_at owner i [] b inside e h = absurd (omega (arith, inside))
widenable_at owner zero (a ∷ bs) b inside e h = subst (λ (o : BuiltBranch). o.owner ≡ owner → HasSmallValues (exact_branch o).law) (sym e) h.0
widenable_at owner (suc i) (a ∷ bs) b inside e h = widenable_at owner i bs b (omega (arith, inside)) e h.1

-- branches that were widened so far, and one more
abbrev pub AreWidened : ℕ → ℕ → List BuiltBranch → List BuiltBranch → Type 0
AreWidened owner factor bs copies = map exact_branch copies ≡ map (widened_branch owner factor) (map exact_branch bs)

widened_more : (owner factor : ℕ) (bs copies : List BuiltBranch) (b copy : BuiltBranch) → AreWidened owner factor bs copies → exact_branch copy ≡ widened_branch owner factor (exact_branch b)
    → AreWidened owner factor (bs ++ b ∷ []) (copies ++ copy ∷ [])
widened_more owner factor bs copies b copy h e =
    map-append exact_branch copies (copy ∷ []) ∙ ap₂ (λ (xs ys : List Branch). xs ++ ys) h (ap (λ (x : Branch). x ∷ []) e)
    ∙ sym (map-append (widened_branch owner factor) (map exact_branch bs) (exact_branch b ∷ [])) ∙ ap (map (widened_branch owner factor)) (sym (map-append exact_branch bs (b ∷ [])))

pub widened_next : (owner factor i : ℕ) (bs copies : List BuiltBranch) (b copy : BuiltBranch) → i < length bs → b ≡ get_or bs i b → AreWidened owner factor (take i bs) copies
    → exact_branch copy ≡ widened_branch owner factor (exact_branch b) → AreWidened owner factor (take (i + 1) bs) (copies ++ copy ∷ [])
widened_next owner factor i bs copies b copy inside there h e =
    let more : i + 1 ≡ suc i = omega arith in
    let next : take (i + 1) bs ≡ take i bs ++ b ∷ [] = ap (λ (k : ℕ). take k bs) more ∙ take-suc bs i b inside ∙ ap (λ (x : BuiltBranch). take i bs ++ x ∷ []) (sym there) in
    subst (λ (l : List BuiltBranch). AreWidened owner factor l (copies ++ copy ∷ [])) (sym next) (widened_more owner factor (take i bs) copies b copy h e)

-- all of them
pub all_widened : (owner factor permille at : ℕ) (upward : Bool) (network : BuiltNetwork) (copies : List BuiltBranch) → AreWidened owner factor (take at network.branches) copies → length network.branches ≤ at
    → factor ≡ factor_of permille upward → exact_network (record network { branches = copies }) ≡ widened owner permille upward (exact_network network)
all_widened owner factor permille at upward network copies h past f =
    let branches = h ∙ ap (λ (l : List BuiltBranch). map (widened_branch owner factor) (map exact_branch l)) (take_all at network.branches past) ∙ ap (λ (k : ℕ). map (widened_branch owner k) (map exact_branch network.branches)) f in
    ap (λ (bs : List Branch). record { buses = network.buses; nodes = network.nodes; branches = bs }) branches

pub widened_whole : (owner permille : ℕ) (upward : Bool) (before after : BuiltNetwork) → exact_network after ≡ widened owner permille upward (exact_network before) → IsWholeNetwork before → IsWholeNetwork after
widened_whole owner permille upward before after e w =
    let nodes : after.nodes ≡ before.nodes = ap (λ (n : Network). n.nodes) e in
    let branches : length (exact_network after).branches ≡ length (exact_network (before)).branches = ap (λ (n : Network). length n.branches) e ∙ length-map (exact_network before).branches (widened_branch owner (factor_of permille upward)) in
    record {
      limits = record {
        nodes = omega (arith, nodes, w.limits.nodes);
        branches = omega (arith, branches, length-map after.branches exact_branch, length-map before.branches exact_branch, w.limits.branches);
      };
      exact = subst IsWhole (sym e) (whole_kept owner permille upward (exact_network before) w.exact);
    }
