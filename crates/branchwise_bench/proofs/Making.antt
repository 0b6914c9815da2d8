-- Branches and drops, one after another, as a bench is made.
use Rattle.std.proofs.Common.{◌≡◌, ◌∙◌, ℕ, suc, ◌+◌, ◌-◌, ◌<◌, Bool, true, false, List, [], ◌∷◌, ◌++◌, map, Option, Some, None, refl, sym, ap, arith, length, append_assoc}
use Rattle.std.specs.Prelude.{is_some, not, if◌then◌else◌}
use Rattle.std.specs.Option.{option_map}
use Rattle.network_theory.specs.Branch.{Branch}
use Rattle.admittance_box.specs.Addends.{PlacedTap, TapPair, has_place}
use Rattle.admittance_box.specs.Assembled.{Assembled}
use Rattle.admittance_box.specs.Steps.{◌>>=◌}
use Rattle.admittance_box.proofs.TapLoops.{map-append_one}
use Rattle.branchwise_test.specs.Drops.{LiveBranch, DropEnds, live_branches}
use Rattle.branchwise_bench.specs.Layout.{bare_node, bare_nodes, own_drop}
use Rattle.branchwise_bench.specs.Pair.{BranchwisePair, branchwise_pair}

-- ---- the drops of nodes
module _ {R : Type 0} (h : R → DropEnds) (s : ℕ) where
  one_node : (i m : ℕ) (items after : List R) (x : R) (total : List DropEnds) → after ≡ items ++ x ∷ [] → h x ≡ bare_node s i → map h items ++ bare_nodes s i (suc m) ≡ total → map h after ++ bare_nodes s (suc i) m ≡ total
  one_node i m items after x total e k q =
      ap (λ l. l ++ bare_nodes s (suc i) m) (ap (map h) e ∙ map-append_one h items x)
      ∙ (append_assoc (map h items) (h x ∷ []) (bare_nodes s (suc i) m) ∙ (ap (λ d. map h items ++ d ∷ bare_nodes s (suc i) m) k ∙ q))

  pub nodes_more : (count i : ℕ) (items after : List R) (x : R) (total : List DropEnds) → i < count → after ≡ items ++ x ∷ [] → h x ≡ bare_node s i → map h items ++ bare_nodes s i (count - i) ≡ total → map h after ++ bare_nodes s (i + 1) (count - (i + 1)) ≡ total
  nodes_more count i items after x total l e k q =
      let left : count - i ≡ suc (count - (i + 1)) = omega arith in
      let next : i + 1 ≡ suc i = omega arith in
      ap (λ j. map h after ++ bare_nodes s j (count - (i + 1))) next ∙ one_node i (count - (i + 1)) items after x total e k (ap (λ j. map h items ++ bare_nodes s i j) (sym left) ∙ q)

-- ---- the drops of branches
own_append : (taps : List PlacedTap) (pairs : List TapPair) (others : List DropEnds) → own_drop taps pairs [] ++ others ≡ own_drop taps pairs others
own_append taps [] others = refl
own_append taps (p ∷ []) others = refl
own_append taps (p ∷ q ∷ pairs) others = refl

pub owns_more : (taps : List PlacedTap) (pairs : List TapPair) (before after whole others : List DropEnds) → after ≡ before ++ own_drop taps pairs [] → whole ≡ after ++ others → whole ≡ before ++ own_drop taps pairs others
owns_more taps pairs before after whole others e k =
    k ∙ (ap (λ l. l ++ others) e ∙ (append_assoc before (own_drop taps pairs []) others ∙ ap (λ l. before ++ l) (own_append taps pairs others)))

-- ---- results
-- the live branches that were added to none
pub all_live : (o : Option (Unit {0})) (u : Unit {0}) (new front : List LiveBranch) (stated : Option (List LiveBranch)) → o ≡ Some u → front ≡ [] → option_map (λ _. new) o ≡ option_map (λ more. front ++ more) stated → stated ≡ Some new
all_live o u new front stated q e k = go stated (ap (option_map (λ _. new)) (sym q) ∙ (k ∙ ap (λ l. option_map (λ more. l ++ more) stated) e))
  where
    go : (p : Option (List LiveBranch)) → Some new ≡ option_map (λ more. [] ++ more) p → p ≡ Some new
    go (Some bs) m = sym m
    go None m = absurd cc

pub none_live : (o : Option (Unit {0})) (new front : List LiveBranch) (stated : Option (List LiveBranch)) → o ≡ None → option_map (λ _. new) o ≡ option_map (λ more. front ++ more) stated → stated ≡ None
none_live o new front stated q k = go stated (ap (option_map (λ _. new)) (sym q) ∙ k)
  where
    go : (p : Option (List LiveBranch)) → None ≡ option_map (λ more. front ++ more) p → p ≡ None
    go (Some bs) m = absurd cc
    go None m = refl

pub pair_made : (s : ℕ) (a : Assembled) (ordering : List ℕ) (ls hs : List Branch) (o : Option (List LiveBranch)) → ordering ≡ a.ordering → ls ≡ a.low.branches → hs ≡ a.high.branches → live_branches s ordering ls hs ≡ o
    → ◌≡◌ {A = BranchwisePair} (record { nodes = length ordering; branches = o }) (branchwise_pair s a)
pair_made s a ordering ls hs o p q r e =
    let same : o ≡ live_branches s a.ordering a.low.branches a.high.branches = sym e ∙ rw (p, q, r) refl in
    rw (same, p) refl
