-- The rounds of specs/Reach.antt reach exactly the live nodes.
use Rattle.std.proofs.Common.{◌≡◌, ◌⊎◌, inl, inr, ℕ, zero, suc, ◌+◌, ◌≤◌, ◌<◌, Bool, true, false, ◌&&◌, ◌||◌, ◌==◌, List, [], ◌∷◌, length, get_or, refl, ap, sym, subst, ◌∙◌, arith}
use Rattle.std.proofs.lemmas.Bool.Decides.{nat_tests}
use Rattle.std.specs.Prelude.{Contains}
use Rattle.std.specs.List.{AllByRecursion}
use Rattle.network_theory.specs.Branch.{Tap, Branch}
use Rattle.network_theory.specs.Network.{Network, IsWhole}
use Rattle.network_theory.specs.Live.{Live, grounded, joined}
use Rattle.network_theory.specs.Laws.{IsClosed}
use Rattle.network_theory.specs.Reach.{has_in, is_tied, is_reached, in_rounds, is_live, LiveInRounds}
use Rattle.network_theory.proofs.Stated.{live_is_least}

abbrev Set : Type 0
Set = ℕ → Bool

-- ---- tests
and_both : (a b : Bool) → (a && b) ≡ true → (a ≡ true) × (b ≡ true)
and_both true b h = (refl, h)
and_both false b h = absurd (cc h)

or_either : (a b : Bool) → (a || b) ≡ true → (a ≡ true) ⊎ (b ≡ true)
or_either true b h = inl refl
or_either false b h = inr h

or_left : (a b : Bool) → a ≡ true → (a || b) ≡ true
or_left true b h = refl
or_left false b h = absurd (cc h)

or_right : (a b : Bool) → b ≡ true → (a || b) ≡ true
or_right true b h = refl
or_right false b h = h

and_of : (a b : Bool) → a ≡ true → b ≡ true → (a && b) ≡ true
and_of true b h k = k
and_of false b h k = absurd (cc h)

same_of : (m n : ℕ) → (m == n) ≡ true → m ≡ n
same_of m n h = grind (arith, nat_tests)

of_same : (n : ℕ) → (n == n) ≡ true
of_same n = grind (arith, nat_tests)

-- ---- members of lists
first_in : {X : Type 0} (x : X) (xs : List X) → Contains (x ∷ xs) x
first_in x xs = (0, omega arith, refl)

later_in : {X : Type 0} (x y : X) (xs : List X) → Contains xs y → Contains (x ∷ xs) y
later_in x y xs k = (suc k.0, omega (arith, k.1), k.2)

-- a member is the first, or one of the others
parts_in : {X : Type 0} (x y : X) (xs : List X) → Contains (x ∷ xs) y → (x ≡ y) ⊎ Contains xs y
parts_in {X} x y xs k = go k.0 k.1 k.2
  where
    go : (i : ℕ) → i < suc (length xs) → get_or (x ∷ xs) i y ≡ y → (x ≡ y) ⊎ Contains xs y
    go zero l e = inl e
    go (suc i) l e = inr (i, omega arith, e)

none_in : {X : Type 0} (y : X) → Contains [] y → ⊥
none_in y k = omega (arith, k.1)

-- what holds of each member holds of one
holds_in : {X : Type 0} (P : X → Type 0) (xs : List X) (x : X) → AllByRecursion P xs → Contains xs x → P x
holds_in P [] x all k = absurd (none_in x k)
holds_in P (y ∷ xs) x all k = go (parts_in y x xs k) (λ q. holds_in P xs x all.1 q)
  where
    go : (y ≡ x) ⊎ Contains xs x → (Contains xs x → P x) → P x
    go (inl e) rest = subst P e all.0
    go (inr q) rest = rest q

-- ---- taps and branches
record HasIn (set : Set) (taps : List Tap) : Type 0 where
  tap : Tap
  there : Contains taps tap
  inside : set tap.node ≡ true

has_some : (set : Set) (taps : List Tap) → has_in set taps ≡ true → HasIn set taps
has_some set [] h = absurd (cc h)
has_some set (t ∷ taps) h = go (or_either (set t.node) (has_in set taps) h) (λ e. has_some set taps e)
  where
    go : (set t.node ≡ true) ⊎ (has_in set taps ≡ true) → (has_in set taps ≡ true → HasIn set taps) → HasIn set (t ∷ taps)
    go (inl e) rest = record { tap = t; there = first_in t taps; inside = e }
    go (inr e) rest = let r = rest e in record { tap = r.tap; there = later_in t r.tap taps r.there; inside = r.inside }

has_of : (set : Set) (taps : List Tap) (t : Tap) → Contains taps t → set t.node ≡ true → has_in set taps ≡ true
has_of set [] t k e = absurd (none_in t k)
has_of set (u ∷ taps) t k e = go (parts_in u t taps k) (λ q. has_of set taps t q e)
  where
    go : (u ≡ t) ⊎ Contains taps t → (Contains taps t → has_in set taps ≡ true) → has_in set (u ∷ taps) ≡ true
    go (inl same) rest = or_left (set u.node) (has_in set taps) (ap (λ (x : Tap). set x.node) same ∙ e)
    go (inr q) rest = or_right (set u.node) (has_in set taps) (rest q)

record IsReached (set : Set) (branches : List Branch) (n : ℕ) : Type 0 where
  branch : Branch
  there : Contains branches branch
  tied : is_tied set branch.taps ≡ true
  at_node : has_in (λ m. m == n) branch.taps ≡ true

reached_some : (set : Set) (branches : List Branch) (n : ℕ) → is_reached set branches n ≡ true → IsReached set branches n
reached_some set [] n h = absurd (cc h)
reached_some set (b ∷ bs) n h = go (or_either (is_tied set b.taps && has_in (λ m. m == n) b.taps) (is_reached set bs n) h) (λ e. reached_some set bs n e)
  where
    go : ((is_tied set b.taps && has_in (λ m. m == n) b.taps) ≡ true) ⊎ (is_reached set bs n ≡ true) → (is_reached set bs n ≡ true → IsReached set bs n) → IsReached set (b ∷ bs) n
    go (inl e) rest = let p = and_both (is_tied set b.taps) (has_in (λ m. m == n) b.taps) e in record { branch = b; there = first_in b bs; tied = p.0; at_node = p.1 }
    go (inr e) rest = let r = rest e in record { branch = r.branch; there = later_in b r.branch bs r.there; tied = r.tied; at_node = r.at_node }

reached_of : (set : Set) (branches : List Branch) (n : ℕ) (b : Branch) → Contains branches b → is_tied set b.taps ≡ true → has_in (λ m. m == n) b.taps ≡ true → is_reached set branches n ≡ true
reached_of set [] n b k t h = absurd (none_in b k)
reached_of set (o ∷ bs) n b k t h = go (parts_in o b bs k) (λ q. reached_of set bs n b q t h)
  where
    go : (o ≡ b) ⊎ Contains bs b → (Contains bs b → is_reached set bs n ≡ true) → is_reached set (o ∷ bs) n ≡ true
    go (inl same) rest = or_left (is_tied set o.taps && has_in (λ m. m == n) o.taps) (is_reached set bs n)
        (subst (λ (x : Branch). (is_tied set x.taps && has_in (λ m. m == n) x.taps) ≡ true) (sym same) (and_of (is_tied set b.taps) (has_in (λ m. m == n) b.taps) t h))
    go (inr q) rest = or_right (is_tied set o.taps && has_in (λ m. m == n) o.taps) (is_reached set bs n) (rest q)

-- ---- what is reached is live
abbrev IsSound : Network → Set → Type 0
IsSound network set = (n : ℕ) → set n ≡ true → Live network n

tied_live : (network : Network) (set : Set) → IsSound network set → (b : Branch) → Contains network.branches b → (t : Tap) → Contains b.taps t → (taps : List Tap) → b.taps ≡ taps → is_tied set taps ≡ true → Live network t.node
tied_live network set sound b k t q [] e h = absurd (cc h)
tied_live network set sound b k t q (o ∷ []) e h = go (parts_in o t [] (subst (λ (l : List Tap). Contains l t) e q))
  where
    go : (o ≡ t) ⊎ Contains [] t → Live network t.node
    go (inl same) = subst (λ (x : Tap). Live network x.node) same (grounded b o k e)
    go (inr none) = absurd (none_in t none)
tied_live network set sound b k t q (o ∷ u ∷ taps) e h =
    let some = has_some set (o ∷ u ∷ taps) h in
    joined b some.tap t k (subst (λ (l : List Tap). Contains l some.tap) (sym e) some.there) q (sound some.tap.node some.inside)

reached_live : (network : Network) (set : Set) → IsSound network set → (n : ℕ) → is_reached set network.branches n ≡ true → Live network n
reached_live network set sound n h =
    let r = reached_some set network.branches n h in
    let some = has_some (λ m. m == n) r.branch.taps r.at_node in
    subst (Live network) (same_of some.tap.node n some.inside) (tied_live network set sound r.branch r.there some.tap some.there r.branch.taps refl r.tied)

rounds_live : (k : ℕ) (network : Network) → IsSound network (in_rounds k network.branches)
rounds_live zero network n h = absurd (cc h)
rounds_live (suc k) network n h = go (or_either (in_rounds k network.branches n) (is_reached (in_rounds k network.branches) network.branches n) h) (λ m e. rounds_live k network m e)
  where
    go : (in_rounds k network.branches n ≡ true) ⊎ (is_reached (in_rounds k network.branches) network.branches n ≡ true) → IsSound network (in_rounds k network.branches) → Live network n
    go (inl e) sound = sound n e
    go (inr e) sound = reached_live network (in_rounds k network.branches) sound n e

-- ---- how many of the first nodes are in a set
abbrev one_if : Bool → ℕ
one_if true = 1
one_if false = 0

abbrev count : Set → ℕ → ℕ
count set zero = 0
count set (suc n) = one_if (set n) + count set n

-- each of the first nodes of one set is in the other
abbrev IsWithin : ℕ → Set → Set → Type 0
IsWithin n s t = (i : ℕ) → i < n → s i ≡ true → t i ≡ true

one_most : (a : Bool) → one_if a ≤ 1
one_most true = omega arith
one_most false = omega arith

one_least : (a b : Bool) → (a ≡ true → b ≡ true) → one_if a ≤ one_if b
one_least true true h = omega arith
one_least true false h = absurd (cc (h refl))
one_least false b h = omega arith

count_most : (s : Set) (n : ℕ) → count s n ≤ n
count_most s zero = omega arith
count_most s (suc n) = omega (arith, one_most (s n), count_most s n)

shorter : (n : ℕ) (s t : Set) → IsWithin (suc n) s t → IsWithin n s t
shorter n s t w i l e = w i (omega arith) e

last_in : (n : ℕ) (s t : Set) → IsWithin (suc n) s t → s n ≡ true → t n ≡ true
last_in n s t w e = w n (omega arith) e

count_grows : (n : ℕ) (s t : Set) → IsWithin n s t → count s n ≤ count t n
count_grows zero s t w = omega arith
count_grows (suc n) s t w = omega (arith, one_least (s n) (t n) (last_in n s t w), count_grows n s t (shorter n s t w))

-- no more of the greater set: it is the same
count_same : (n : ℕ) (s t : Set) → IsWithin n s t → count t n ≤ count s n → IsWithin n t s
count_same zero s t w h i l e = absurd (omega arith)
count_same (suc n) s t w h i l e = go (s n) (t n) refl refl (ordering i n) (λ few less. count_same n s t (shorter n s t w) few i less e)
  where
    ordering : (a b : ℕ) → (a < b) ⊎ (a ≡ b) ⊎ (b < a)
    ordering a b = grind arith

    grows : count s n ≤ count t n
    grows = count_grows n s t (shorter n s t w)

    go : (a b : Bool) → s n ≡ a → t n ≡ b → (i < n) ⊎ (i ≡ n) ⊎ (n < i) → (count t n ≤ count s n → i < n → s i ≡ true) → s i ≡ true
    go a b p q (inl less) rest =
        let first : one_if a ≤ one_if b = one_least a b (λ x. sym q ∙ last_in n s t w (p ∙ x)) in
        let least : one_if b + count t n ≤ one_if a + count s n = subst (λ (x : Bool). one_if x + count t n ≤ one_if a + count s n) q (subst (λ (x : Bool). one_if (t n) + count t n ≤ one_if x + count s n) p h) in
        rest (omega (arith, first, least, grows)) less
    go true b p q (inr (inl same)) rest = ap s same ∙ p
    go false true p q (inr (inl same)) rest =
        let least : one_if true + count t n ≤ one_if false + count s n = subst (λ (x : Bool). one_if x + count t n ≤ one_if false + count s n) q (subst (λ (x : Bool). one_if (t n) + count t n ≤ one_if x + count s n) p h) in
        let one : one_if true ≡ 1 = refl in
        let none : one_if false ≡ 0 = refl in absurd (omega (arith, least, grows, one, none))
    go false false p q (inr (inl same)) rest = absurd (cc (sym q ∙ ap t (sym same) ∙ e))
    go a b p q (inr (inr more)) rest = absurd (omega (arith, l, more))

-- ---- a round that adds nothing
rounds_more : (k : ℕ) (branches : List Branch) (n : ℕ) → in_rounds k branches n ≡ true → in_rounds (suc k) branches n ≡ true
rounds_more k branches n h = or_left (in_rounds k branches n) (is_reached (in_rounds k branches) branches n) h

rounds_further : (j k : ℕ) (branches : List Branch) (n : ℕ) → in_rounds j branches n ≡ true → in_rounds (k + j) branches n ≡ true
rounds_further j zero branches n h = let same : j ≡ 0 + j = omega arith in subst (λ (m : ℕ). in_rounds m branches n ≡ true) same h
rounds_further j (suc k) branches n h =
    let same : suc (k + j) ≡ suc k + j = omega arith in subst (λ (m : ℕ). in_rounds m branches n ≡ true) same (rounds_more (k + j) branches n (rounds_further j k branches n h))

abbrev IsStill : ℕ → ℕ → List Branch → Type 0
IsStill k nodes branches = IsWithin nodes (in_rounds (suc k) branches) (in_rounds k branches)

record StoodStill (k nodes : ℕ) (branches : List Branch) : Type 0 where
  round : ℕ
  rest : ℕ
  before : rest + round ≡ k
  still : IsStill round nodes branches

within_next : (k nodes : ℕ) (branches : List Branch) → IsWithin nodes (in_rounds k branches) (in_rounds (suc k) branches)
within_next k nodes branches i l h = rounds_more k branches i h

stood_here : (j nodes : ℕ) (branches : List Branch) → count (in_rounds (suc j) branches) nodes ≤ count (in_rounds j branches) nodes → StoodStill j nodes branches
stood_here j nodes branches few = record { round = j; rest = 0; before = omega arith; still = count_same nodes (in_rounds j branches) (in_rounds (suc j) branches) (within_next j nodes branches) few }

-- some round before this one added nothing, or so many nodes are in
Earlier : ℕ → ℕ → List Branch → Type 0
Earlier j nodes branches = StoodStill j nodes branches ⊎ (j ≤ count (in_rounds j branches) nodes)

after : (j nodes : ℕ) (branches : List Branch) → count (in_rounds j branches) nodes < count (in_rounds (suc j) branches) nodes → Earlier j nodes branches
    → StoodStill j nodes branches ⊎ (suc j ≤ count (in_rounds (suc j) branches) nodes)
unfolding Earlier
after j nodes branches more (inl s) = inl s
after j nodes branches more (inr many) = inr (omega (arith, more, many))

-- some round up to here added nothing, or each added a node
compare : (a b : ℕ) → (a ≤ b) ⊎ (b < a)
compare a b = grind arith

step : (j nodes : ℕ) (branches : List Branch) → Earlier j nodes branches → StoodStill j nodes branches ⊎ (suc j ≤ count (in_rounds (suc j) branches) nodes)
step j nodes branches earlier = go (compare (count (in_rounds (suc j) branches) nodes) (count (in_rounds j branches) nodes))
  where
    go : (count (in_rounds (suc j) branches) nodes ≤ count (in_rounds j branches) nodes) ⊎ (count (in_rounds j branches) nodes < count (in_rounds (suc j) branches) nodes)
        → StoodStill j nodes branches ⊎ (suc j ≤ count (in_rounds (suc j) branches) nodes)
    go (inl few) = inl (stood_here j nodes branches few)
    go (inr more) = after j nodes branches more earlier

later : (j nodes : ℕ) (branches : List Branch) → StoodStill j nodes branches ⊎ (suc j ≤ count (in_rounds (suc j) branches) nodes) → Earlier (suc j) nodes branches
unfolding Earlier
later j nodes branches (inl s) = let more : suc s.rest + s.round ≡ suc j = omega (arith, s.before) in inl (record { round = s.round; rest = suc s.rest; before = more; still = s.still })
later j nodes branches (inr many) = inr many

steps : (k nodes : ℕ) (branches : List Branch) → StoodStill k nodes branches ⊎ (suc k ≤ count (in_rounds (suc k) branches) nodes)
unfolding Earlier
steps zero nodes branches = step zero nodes branches (inr (omega arith))
steps (suc k) nodes branches = step (suc k) nodes branches (later k nodes branches (steps k nodes branches))

stands_still : (nodes : ℕ) (branches : List Branch) → StoodStill nodes nodes branches
stands_still nodes branches = go (steps nodes nodes branches)
  where
    go : StoodStill nodes nodes branches ⊎ (suc nodes ≤ count (in_rounds (suc nodes) branches) nodes) → StoodStill nodes nodes branches
    go (inl s) = s
    go (inr many) = absurd (omega (arith, many, count_most (in_rounds (suc nodes) branches) nodes))

-- ---- a set that stands still is closed
abbrev IsAtNodes : Network → Type 0
IsAtNodes network = (b : Branch) (t : Tap) → Contains network.branches b → Contains b.taps t → t.node < network.nodes

at_nodes : (network : Network) → IsWhole network → IsAtNodes network
at_nodes network w b t k q = holds_in (λ (x : Tap). x.node < network.nodes) b.taps t (holds_in (λ (x : Branch). AllByRecursion (λ (y : Tap). y.node < network.nodes) x.taps) network.branches b w.taps k) q

tied_one : (set : Set) (t : Tap) (taps : List Tap) → taps ≡ t ∷ [] → is_tied set taps ≡ true
tied_one set t taps e = ap (is_tied set) e

tied_some : (set : Set) (taps : List Tap) (t : Tap) → Contains taps t → set t.node ≡ true → is_tied set taps ≡ true
tied_some set [] t k e = absurd (none_in t k)
tied_some set (u ∷ []) t k e = refl
tied_some set (u ∷ v ∷ taps) t k e = has_of set (u ∷ v ∷ taps) t k e

-- a node of a branch that is tied is in the set
kept : (network : Network) (j : ℕ) → IsAtNodes network → IsStill j network.nodes network.branches → (b : Branch) (u : Tap) → Contains network.branches b → Contains b.taps u
    → is_tied (in_rounds j network.branches) b.taps ≡ true → in_rounds j network.branches u.node ≡ true
kept network j inside still b u k q tied =
    still u.node (inside b u k q) (or_right (in_rounds j network.branches u.node) (is_reached (in_rounds j network.branches) network.branches u.node)
    (reached_of (in_rounds j network.branches) network.branches u.node b k tied (has_of (λ m. m == u.node) b.taps u q (of_same u.node))))

closed_still : (network : Network) (j : ℕ) → IsAtNodes network → IsStill j network.nodes network.branches → IsClosed network (in_rounds j network.branches)
closed_still network j inside still = record {
  grounded = λ b t k e. kept network j inside still b t k (subst (λ (l : List Tap). Contains l t) (sym e) (first_in t [])) (tied_one (in_rounds j network.branches) t b.taps e);
  joined = λ b t u k p q l. kept network j inside still b u k q (tied_some (in_rounds j network.branches) b.taps t p l);
}

more : (a b c : ℕ) → a + b ≡ c → suc a + b ≡ suc c
more a b c e = omega (arith, e)

pub live_in_rounds : LiveInRounds
unfolding is_live
live_in_rounds network whole n =
    let s = stands_still network.nodes network.branches in
    let closed = closed_still network s.round (at_nodes network whole) s.still in (
      rounds_live (suc network.nodes) network n,
      λ l. subst (λ (k : ℕ). in_rounds k network.branches n ≡ true) (more s.rest s.round network.nodes s.before) (rounds_further s.round (suc s.rest) network.branches n (live_is_least network (in_rounds s.round network.branches) closed n l)),
    )
