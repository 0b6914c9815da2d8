-- The live nodes of networks of one shape are the same.
use Rattle.std.proofs.Common.{◌≡◌, ℕ, zero, suc, ◌<◌, List, [], ◌∷◌, length, get_or, refl, sym, subst, arith}
use Rattle.std.specs.Prelude.{Contains}
use Rattle.std.specs.List.{AllZip}
use Rattle.network_theory.specs.Branch.{Tap, Branch}
use Rattle.network_theory.specs.Network.{Network}
use Rattle.network_theory.specs.Live.{Live, grounded, joined}
use Rattle.network_theory.specs.Between.{TapUpTo, BranchUpTo, IsPair}

-- a fact of each two items gives another of them
pub zip_map : {A B : Type 0} (P Q : A → B → Type 0) → ((x : A) (y : B) → P x y → Q x y) → (xs : List A) (ys : List B) → AllZip P xs ys → AllZip Q xs ys
zip_map P Q f [] [] z = tt
zip_map P Q f [] (y ∷ ys) z = absurd z
zip_map P Q f (x ∷ xs) [] z = absurd z
zip_map P Q f (x ∷ xs) (y ∷ ys) z = (f x y z.0, zip_map P Q f xs ys z.1)

-- and with the lists exchanged
pub zip_back : {A B : Type 0} (P : A → B → Type 0) (Q : B → A → Type 0) → ((x : A) (y : B) → P x y → Q y x) → (xs : List A) (ys : List B) → AllZip P xs ys → AllZip Q ys xs
zip_back P Q f [] [] z = tt
zip_back P Q f [] (y ∷ ys) z = absurd z
zip_back P Q f (x ∷ xs) [] z = absurd z
zip_back P Q f (x ∷ xs) (y ∷ ys) z = (f x y z.0, zip_back P Q f xs ys z.1)

-- the item of the other list
partner_go : {A B : Type 0} (P : A → B → Type 0) (a : A) (b : B) (xs : List A) (ys : List B) (x : A) → P a b → ((i : ℕ) → i < length xs → get_or xs i x ≡ x → (y : B) × Contains ys y × P x y)
    → (i : ℕ) → i < suc (length xs) → get_or (a ∷ xs) i x ≡ x → (y : B) × Contains (b ∷ ys) y × P x y
partner_go P a b xs ys x p more zero l e = (b, (0, omega arith, refl), subst (λ t. P t b) e p)
partner_go P a b xs ys x p more (suc i) l e = let (y, c, q) = more i (omega arith) e in (y, (suc c.0, omega (arith, c.1), c.2), q)

partner : {A B : Type 0} (P : A → B → Type 0) (xs : List A) (ys : List B) → AllZip P xs ys → (x : A) → Contains xs x → (y : B) × Contains ys y × P x y
partner P [] ys z x k = absurd (omega (arith, k.1))
partner P (a ∷ xs) [] z x k = absurd z
partner P (a ∷ xs) (b ∷ ys) z x k = partner_go P a b xs ys x z.0 (λ i l e. partner P xs ys z.1 x (i, l, e)) k.0 k.1 k.2

-- taps at the same nodes
pub record SameNode (t u : Tap) : Type 0 where
  pub node : t.node ≡ u.node

abbrev pub SameNodes : Branch → Branch → Type 0
SameNodes a b = AllZip SameNode a.taps b.taps

one_tap : (t : Tap) (ts us : List Tap) → AllZip SameNode ts us → ts ≡ t ∷ [] → (u : Tap) × (us ≡ u ∷ []) × (t.node ≡ u.node)
one_tap t ts us z e = go us (subst (λ l. AllZip SameNode l us) e z)
  where
    go : (us : List Tap) → AllZip SameNode (t ∷ []) us → (u : Tap) × (us ≡ u ∷ []) × (t.node ≡ u.node)
    go [] z = absurd z
    go (u ∷ []) z = (u, refl, z.0.node)
    go (u ∷ w ∷ us) z = absurd z.1

live_along : (a b : Network) → AllZip SameNodes a.branches b.branches → (n : ℕ) → Live a n → Live b n
live_along a b z n (grounded x t k e) =
    let (y, c, s) = partner SameNodes a.branches b.branches z x k in
    let (u, f, q) = one_tap t x.taps y.taps s e in
    subst (Live b) (sym q) (grounded y u c f)
live_along a b z n (joined x t u k p q l) =
    let (y, c, s) = partner SameNodes a.branches b.branches z x k in
    let (v, cv, ev) = partner SameNode x.taps y.taps s t p in
    let (w, cw, ew) = partner SameNode x.taps y.taps s u q in
    subst (Live b) (sym ew.node) (joined y v w c cv cw (subst (Live b) ev.node (live_along a b z t.node l)))

same_nodes : (x y : Branch) → BranchUpTo x y → SameNodes x y
same_nodes x y p = zip_map TapUpTo SameNode (λ t u q. record { node = q.node }) x.taps y.taps p.taps

same_nodes_back : (x y : Branch) → BranchUpTo x y → SameNodes y x
same_nodes_back x y p = zip_back TapUpTo SameNode (λ t u q. record { node = sym q.node }) x.taps y.taps p.taps

-- live in the one, live in the other
pub live_up : (a b : Network) → IsPair a b → (n : ℕ) → Live a n → Live b n
live_up a b p = live_along a b (zip_map BranchUpTo SameNodes same_nodes a.branches b.branches p.branches)

pub live_down : (a b : Network) → IsPair a b → (n : ℕ) → Live b n → Live a n
live_down a b p = live_along b a (zip_back BranchUpTo SameNodes same_nodes_back a.branches b.branches p.branches)
