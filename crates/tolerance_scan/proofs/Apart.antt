-- Branches of two networks that are compared one by one.
use Rattle.std.proofs.Common.{◌≡◌, ◌∙◌, ◌+◌, ◌≤◌, ◌<◌, ℕ, zero, suc, List, [], ◌∷◌, map, length, drop, get_or, refl, ap, sym, subst, arith, drop-cons, length-drop}
use Rattle.std.proofs.lemmas.List.{drop_all}
use Rattle.std.specs.Prelude.{Option, Some, None, MatchOption}
use Rattle.std.specs.List.{AllZip}
use Rattle.network_theory.specs.Between.{BranchUpTo, IsPair}
use Rattle.network_theory.specs.Branch.{Branch}
use Rattle.network_theory.specs.Network.{Network}
use Rattle.net_branch.specs.declared.network.Branch.{Branch as BuiltBranch}
use Rattle.net_branch.specs.declared.network.Network.{Network as BuiltNetwork}
use Rattle.net_branch.specs.Exact.{exact_branch, exact_network}
use Rattle.tolerance_scan.specs.Apart.{IsFirstApart, differ, low_alone, high_alone, later, IsApart, counts, branch, NoPairApart}

abbrev exact : List BuiltBranch → List Branch
exact bs = map exact_branch bs

-- the branches before a place are pairs: what holds of the others holds of all
pub record IsPairSoFar (low high : List BuiltBranch) (i : ℕ) : Type 0 where
  pub apart : (n : ℕ) → IsFirstApart (exact (drop i low)) (exact (drop i high)) n → IsFirstApart (exact low) (exact high) (i + n)
  pub pair : AllZip BranchUpTo (exact (drop i low)) (exact (drop i high)) → AllZip BranchUpTo (exact low) (exact high)

pub pair_start : (low high : List BuiltBranch) → IsPairSoFar low high 0
pair_start low high = record { apart = λ n h. subst (IsFirstApart (exact low) (exact high)) (omega arith) h; pair = λ z. z }

rest_at : (bs : List BuiltBranch) (i : ℕ) (b : BuiltBranch) → i < length bs → b ≡ get_or bs i b → drop i bs ≡ b ∷ drop (i + 1) bs
rest_at bs i b inside there =
    let next : suc i ≡ i + 1 = omega arith in
    drop-cons bs i b inside ∙ ap (λ (x : BuiltBranch). x ∷ drop (suc i) bs) (sym there) ∙ ap (λ (k : ℕ). b ∷ drop k bs) next

-- one pair more
pub pair_next : (low high : List BuiltBranch) (i : ℕ) (a b : BuiltBranch) → i < length low → a ≡ get_or low i a → i < length high → b ≡ get_or high i b → BranchUpTo (exact_branch a) (exact_branch b)
    → IsPairSoFar low high i → IsPairSoFar low high (i + 1)
pair_next low high i a b inside there within at up so =
    let first = rest_at low i a inside there in
    let second = rest_at high i b within at in
    record {
      apart = λ n h. subst (IsFirstApart (exact low) (exact high)) (omega arith)
          (so.apart (suc n) (rw (first, second) (later (exact_branch a) (exact_branch b) (exact (drop (i + 1) low)) (exact (drop (i + 1) high)) n up h)));
      pair = λ z. so.pair (rw (first, second) (up, z));
    }

-- the first that aren't a pair
pub apart_here : (low high : List BuiltBranch) (i : ℕ) (a b : BuiltBranch) → i < length low → a ≡ get_or low i a → i < length high → b ≡ get_or high i b → ¬ BranchUpTo (exact_branch a) (exact_branch b)
    → IsPairSoFar low high i → IsFirstApart (exact low) (exact high) i
apart_here low high i a b inside there within at not so =
    let first = rest_at low i a inside there in
    let second = rest_at high i b within at in
    subst (IsFirstApart (exact low) (exact high)) (omega arith)
    (so.apart 0 (rw (first, second) (differ (exact_branch a) (exact_branch b) (exact (drop (i + 1) low)) (exact (drop (i + 1) high)) not)))

-- a branch of the low network alone
pub low_longer : (low high : List BuiltBranch) (i : ℕ) (a : BuiltBranch) → i < length low → a ≡ get_or low i a → length high ≤ i → IsPairSoFar low high i → IsFirstApart (exact low) (exact high) i
low_longer low high i a inside there past so =
    let first = rest_at low i a inside there in
    let second = drop_all i high past in
    subst (IsFirstApart (exact low) (exact high)) (omega arith) (so.apart 0 (rw (first, second) (low_alone (exact_branch a) (exact (drop (i + 1) low)))))

-- or of the high network
pub high_longer : (low high : List BuiltBranch) (i : ℕ) → length low ≤ i → i < length high → IsPairSoFar low high i → IsFirstApart (exact low) (exact high) i
high_longer low high i past within so = go (drop i high) refl
  where
    go : (rest : List BuiltBranch) → drop i high ≡ rest → IsFirstApart (exact low) (exact high) i
    go [] e = absurd (omega (arith, ap length e, length-drop i high, within))
    go (b ∷ rest) e = subst (IsFirstApart (exact low) (exact high)) (omega arith) (so.apart 0 (rw (drop_all i low past, e) (high_alone (exact_branch b) (exact rest))))

pub all_pairs : (low high : List BuiltBranch) (i : ℕ) → length low ≤ i → length high ≤ i → IsPairSoFar low high i → AllZip BranchUpTo (exact low) (exact high)
all_pairs low high i past end so = so.pair (rw (drop_all i low past, drop_all i high end) tt)

-- ---- networks
no_pairs : (low high : List Branch) (n : ℕ) → IsFirstApart low high n → AllZip BranchUpTo low high → ⊥
no_pairs _ _ _ (differ a b low high not) z = not z.0
no_pairs _ _ _ (low_alone a low) z = z
no_pairs _ _ _ (high_alone b high) z = z
no_pairs _ _ _ (later a b low high n up rest) z = no_pairs low high n rest z.1

pub no_pair_apart : NoPairApart
no_pair_apart low high _ (counts unequal) pair = unequal (pair.buses, pair.nodes)
no_pair_apart low high _ (branch n buses nodes first) pair = no_pairs low.branches high.branches n first pair.branches

-- ---- what a comparison answers
pub apart_networks : (low high : BuiltNetwork) (r : Option ℕ) → low.buses ≡ high.buses → low.nodes ≡ high.nodes
    → MatchOption r (AllZip BranchUpTo (exact low.branches) (exact high.branches)) (IsFirstApart (exact low.branches) (exact high.branches))
    → MatchOption r (IsPair (exact_network low) (exact_network high)) (IsApart (exact_network low) (exact_network high))
apart_networks low high None buses nodes h = record { buses = buses; nodes = nodes; branches = h }
apart_networks low high (Some n) buses nodes h = branch n buses nodes h
