-- Live branches, one after another.
use Rattle.std.proofs.Common.{◌≡◌, ◌∙◌, ℕ, zero, suc, ◌+◌, ◌-◌, ◌<◌, ◌≤◌, Bool, true, false, List, [], ◌∷◌, ◌++◌, length, get_or, take, drop, map, Option, Some, None, refl, sym, ap, arith, append_assoc}
use Rattle.std.specs.Prelude.{is_some, not, ◌||◌, if◌then◌else◌}
use Rattle.std.specs.Option.{option_map}
use Rattle.std.proofs.lemmas.List.{take_all, append-nil}
use Rattle.network_theory.specs.Branch.{Branch as ExactBranch, Coupling}
use Rattle.net_branch.specs.declared.network.Branch.{Branch}
use Rattle.net_branch.specs.Exact.{exact_branch}
use Rattle.admittance_box.specs.Addends.{LawEnds, PlacedTap, has_place}
use Rattle.admittance_box.specs.Steps.{◌>>=◌}
use Rattle.branchwise_test.specs.Drops.{LiveBranch, live_branch, branch_with, four_branches, live_group, group_if_live, first_group, first_live}
use Rattle.branchwise_live.specs.Live.{with_live}

-- ---- live branches
-- those of a branch and then those of the branches after it
abbrev pub joined : Option (List LiveBranch) → Option (List LiveBranch) → Option (List LiveBranch)
joined here rest = here >>= (λ x. rest >>= (λ y. Some (x ++ y)))

pub live_more : (front new : List LiveBranch) (here rest : Option (List LiveBranch)) → Some new ≡ option_map (λ more. front ++ more) here → option_map (λ more. new ++ more) rest ≡ option_map (λ more. front ++ more) (joined here rest)
live_more front new (Some x) None e = refl
live_more front new (Some x) (Some y) e = let k : new ≡ front ++ x = cc in ap Some (ap (λ l. l ++ y) k ∙ append_assoc front x y)
live_more front new None rest e = absurd cc

pub live_none : (front : List LiveBranch) (here rest : Option (List LiveBranch)) → None ≡ option_map (λ more. front ++ more) here → None ≡ option_map (λ more. front ++ more) (joined here rest)
live_none front (Some x) rest e = absurd cc
live_none front None rest e = refl

-- ---- results
pub none_of : {X : Type 0} (o : Option (Unit {0})) (t : Bool) (x : X) (w : Option X) → t ≡ true → is_some o ≡ not t → option_map (λ _. x) o ≡ w → None ≡ w
none_of (Some u) true x w k e q = absurd cc
none_of (Some u) false x w k e q = absurd cc
none_of None t x w k e q = q

pub some_of : {X : Type 0} (o : Option (Unit {0})) (t : Bool) (x : X) (w : Option X) → t ≡ false → is_some o ≡ not t → option_map (λ _. x) o ≡ w → Some x ≡ w
some_of (Some u) t x w k e q = q
some_of None true x w k e q = absurd cc
some_of None false x w k e q = absurd cc

-- the first of some branches, and the others
pub first_more : {B C : Type 0} (L : B → C) (bs : List B) (b : B) → 1 ≤ length bs → b ≡ get_or bs 0 b → map L bs ≡ L b ∷ map L (take (length bs - 1) (drop 1 bs))
first_more L [] b l e = absurd (omega arith)
first_more L (c ∷ bs) b l e =
    let k : suc (length bs) - 1 ≡ length bs = omega arith in
    rw (k, take_all (length bs) bs (omega arith)) (ap (λ x. L x ∷ map L bs) (sym e))

-- ---- the four branches of a group
abbrev pub four_joined : Option LiveBranch → Option LiveBranch → Option LiveBranch → Option LiveBranch → Option (List LiveBranch)
four_joined ab bc ac all = ab >>= (λ a. bc >>= (λ b. ac >>= (λ c. all >>= (λ d. Some (a ∷ b ∷ c ∷ d ∷ [])))))

abbrev pub four_of : ℕ → List PlacedTap → List PlacedTap → List PlacedTap → Option LawEnds → Option LawEnds → Option (List PlacedTap) → Option (List PlacedTap) → Option (List LiveBranch)
four_of s xs ys zs apart common less_ys less_zs =
    apart >>= (λ a. common >>= (λ c. less_ys >>= (λ y. less_zs >>= (λ z. four_joined (branch_with s a (xs ++ y)) (branch_with s a (ys ++ z)) (branch_with s a (xs ++ z)) (branch_with s c (xs ++ ys ++ zs))))))

pub four_is : (s : ℕ) (xs ys zs : List PlacedTap) (a c : LawEnds) (y z : List PlacedTap) (apart common : Option LawEnds) (less_ys less_zs : Option (List PlacedTap)) → Some a ≡ apart → Some c ≡ common → Some y ≡ less_ys → Some z ≡ less_zs
    → four_of s xs ys zs apart common less_ys less_zs ≡ four_joined (branch_with s a (xs ++ y)) (branch_with s a (ys ++ z)) (branch_with s a (xs ++ z)) (branch_with s c (xs ++ ys ++ zs))
four_is s xs ys zs a c y z apart common less_ys less_zs e1 e2 e3 e4 = rw (← e1, ← e2, ← e3, ← e4) refl

module _ (front : List LiveBranch) where
  abbrev pub after : Option (List LiveBranch) → Option (List LiveBranch)
  after = option_map (λ four. front ++ four)

  pub no_first : (ab bc ac all : Option LiveBranch) → None ≡ option_map (λ b. front ++ b ∷ []) ab → None ≡ after (four_joined ab bc ac all)
  no_first None bc ac all e = refl
  no_first (Some a) bc ac all e = absurd cc

  pub no_second : (two : List LiveBranch) (ab bc ac all : Option LiveBranch) → None ≡ option_map (λ b. two ++ b ∷ []) bc → None ≡ after (four_joined ab bc ac all)
  no_second two None bc ac all e = refl
  no_second two (Some a) None ac all e = refl
  no_second two (Some a) (Some b) ac all e = absurd cc

  pub no_third : (three : List LiveBranch) (ab bc ac all : Option LiveBranch) → None ≡ option_map (λ b. three ++ b ∷ []) ac → None ≡ after (four_joined ab bc ac all)
  no_third three None bc ac all e = refl
  no_third three (Some a) None ac all e = refl
  no_third three (Some a) (Some b) None all e = refl
  no_third three (Some a) (Some b) (Some c) all e = absurd cc

  front_four : (a b c d : LiveBranch) → (((front ++ a ∷ []) ++ b ∷ []) ++ c ∷ []) ++ d ∷ [] ≡ front ++ a ∷ b ∷ c ∷ d ∷ []
  front_four a b c d =
      append_assoc ((front ++ a ∷ []) ++ b ∷ []) (c ∷ []) (d ∷ []) ∙ append_assoc (front ++ a ∷ []) (b ∷ []) (c ∷ d ∷ []) ∙ append_assoc front (a ∷ []) (b ∷ c ∷ d ∷ [])

  pub all_four : (one two three : List LiveBranch) (ab bc ac all : Option LiveBranch) → Some one ≡ option_map (λ b. front ++ b ∷ []) ab → Some two ≡ option_map (λ b. one ++ b ∷ []) bc → Some three ≡ option_map (λ b. two ++ b ∷ []) ac
      → option_map (λ b. three ++ b ∷ []) all ≡ after (four_joined ab bc ac all)
  all_four one two three None bc ac all e1 e2 e3 = absurd cc
  all_four one two three (Some a) None ac all e1 e2 e3 = absurd cc
  all_four one two three (Some a) (Some b) None all e1 e2 e3 = absurd cc
  all_four one two three (Some a) (Some b) (Some c) None e1 e2 e3 = refl
  all_four one two three (Some a) (Some b) (Some c) (Some d) e1 e2 e3 =
      let is : three ≡ ((front ++ a ∷ []) ++ b ∷ []) ++ c ∷ [] = cc in
      ap Some (ap (λ l. l ++ d ∷ []) is ∙ front_four a b c d)

-- so of a group by its taps, where each of these lists is one of those
pub four_pushed : (s : ℕ) (xs ys zs : List PlacedTap) (a c : LawEnds) (y z y1 z2 z3 b4 : List PlacedTap) (apart common : Option LawEnds) (less_ys less_zs : Option (List PlacedTap)) (front one two three : List LiveBranch)
    → Some a ≡ apart → Some c ≡ common → Some y ≡ less_ys → Some z ≡ less_zs → y1 ≡ y → z2 ≡ z → z3 ≡ z → b4 ≡ xs ++ ys → Some one ≡ option_map (λ b. front ++ b ∷ []) (branch_with s a (xs ++ y1))
    → Some two ≡ option_map (λ b. one ++ b ∷ []) (branch_with s a (ys ++ z2)) → Some three ≡ option_map (λ b. two ++ b ∷ []) (branch_with s a (xs ++ z3))
    → option_map (λ b. three ++ b ∷ []) (branch_with s c (b4 ++ zs)) ≡ after front (four_of s xs ys zs apart common less_ys less_zs)
four_pushed s xs ys zs a c y z y1 z2 z3 b4 apart common less_ys less_zs front one two three e1 e2 e3 e4 p q r t h1 h2 h3 =
    ap (λ l. option_map (λ b. three ++ b ∷ []) (branch_with s c (l ++ zs))) t
    ∙ all_four front one two three (branch_with s a (xs ++ y)) (branch_with s a (ys ++ z)) (branch_with s a (xs ++ z)) (branch_with s c (xs ++ ys ++ zs))
    (h1 ∙ ap (λ l. option_map (λ b. front ++ b ∷ []) (branch_with s a (xs ++ l))) p) (h2 ∙ ap (λ l. option_map (λ b. one ++ b ∷ []) (branch_with s a (ys ++ l))) q) (h3 ∙ ap (λ l. option_map (λ b. two ++ b ∷ []) (branch_with s a (xs ++ l))) r)
    ∙ ap (after front) (sym (four_is s xs ys zs a c y z apart common less_ys less_zs e1 e2 e3 e4))

-- ---- branches that are too few for a group
pub no_group_low : (s : ℕ) (ordering : List ℕ) (a a' : ExactBranch) (bs cs : List Branch) → length bs < 2 → None ≡ first_group s ordering a (map exact_branch bs) a' (map exact_branch cs)
no_group_low s ordering a a' [] cs l = refl
no_group_low s ordering a a' (b ∷ []) cs l = refl
no_group_low s ordering a a' (b ∷ c ∷ bs) cs l = absurd (omega arith)

pub no_group_high : (s : ℕ) (ordering : List ℕ) (a a' : ExactBranch) (bs cs : List Branch) → 2 ≤ length bs → length cs < 2 → None ≡ first_group s ordering a (map exact_branch bs) a' (map exact_branch cs)
no_group_high s ordering a a' [] cs l k = absurd (omega arith)
no_group_high s ordering a a' (b ∷ []) cs l k = absurd (omega arith)
no_group_high s ordering a a' (b ∷ c ∷ bs) [] l k = refl
no_group_high s ordering a a' (b ∷ c ∷ bs) (d ∷ []) l k = refl
no_group_high s ordering a a' (b ∷ c ∷ bs) (d ∷ e ∷ cs) l k = absurd (omega arith)

-- ---- a branch of its own, and a group
pub first_alone : (s : ℕ) (ordering : List ℕ) (place : Option ℕ) (a b : ExactBranch) (xs bs : List ExactBranch) (front : List LiveBranch) → place ≡ None → with_live s ordering a b front ≡ option_map (λ more. front ++ more) (first_live s ordering place a xs b bs)
first_alone s ordering (Some n) a b xs bs front e = absurd cc
first_alone s ordering None a b xs bs front e = go (has_place ordering a.taps) (live_branch s ordering a b)
  where
    go : (t : Bool) (o : Option LiveBranch) → (if t then (o >>= (λ l. Some (front ++ l ∷ []))) else Some front) ≡ option_map (λ more. front ++ more) (if t then (o >>= (λ l. Some (l ∷ []))) else Some [])
    go true None = refl
    go true (Some l) = refl
    go false o = ap Some (sym (append-nil front))

pub first_of_group : (s : ℕ) (ordering : List ℕ) (place : Option ℕ) (a b : ExactBranch) (xs bs : List ExactBranch) (front : List LiveBranch) → place ≡ Some 0
    → option_map (λ more. front ++ more) (first_group s ordering a xs b bs) ≡ option_map (λ more. front ++ more) (first_live s ordering place a xs b bs)
first_of_group s ordering place a b xs bs front e = rw e refl

abbrev pub group_of : ℕ → Option Coupling → Option (List PlacedTap) → Option (List PlacedTap) → Option (List PlacedTap) → Option (List LiveBranch)
group_of s values xs ys zs = values >>= (λ v. xs >>= (λ x. ys >>= (λ y. zs >>= (λ z. four_branches s v x y z))))

pub group_is : (s : ℕ) (v : Coupling) (x y z : List PlacedTap) (values : Option Coupling) (xs ys zs : Option (List PlacedTap)) → Some v ≡ values → Some x ≡ xs → Some y ≡ ys → Some z ≡ zs → four_branches s v x y z ≡ group_of s values xs ys zs
group_is s v x y z values xs ys zs e1 e2 e3 e4 = rw (← e1, ← e2, ← e3, ← e4) refl

pub group_live : (s : ℕ) (ordering : List ℕ) (a b c a' b' c' : ExactBranch) → (has_place ordering a.taps || has_place ordering b.taps || has_place ordering c.taps) ≡ true → live_group s ordering a b c a' b' c' ≡ group_if_live s ordering a b c a' b' c'
group_live s ordering a b c a' b' c' e = rw e refl
