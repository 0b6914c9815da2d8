-- Lists whose members belong together.
use Rattle.std.proofs.Common.{◌≡◌, ◌≢◌, ◌<◌, ℕ, zero, suc, List, [], ◌∷◌, ◌++◌, length, get_or, map, refl, sym, ap, subst, arith, Option, Some}
use Rattle.std.specs.Prelude.{slice_get}
use Rattle.std.specs.List.{AllZip, AllByRecursion}
use Rattle.network_theory.specs.Nodal.{IsDistinct}
use Rattle.middle_inverse.specs.Lists.{and_then, each, each_two}
use Rattle.certified_inverse.proofs.Rows.{and_then-some}
use Rattle.branchwise_laws.specs.Bounds.{EachAt}
use Rattle.branchwise_laws.specs.Places.{place}
use Rattle.branchwise_laws.proofs.Places.{place-here, place-later}

-- ---- two lists
pub same_length : {X Y : Type 0} (P : X → Y → Type 0) (xs : List X) (ys : List Y) → AllZip P xs ys → length xs ≡ length ys
same_length P [] [] h = refl
same_length P [] (y ∷ ys) h = absurd h
same_length P (x ∷ xs) [] h = absurd h
same_length P (x ∷ xs) (y ∷ ys) h = ap suc (same_length P xs ys h.1)

-- one more at the end of both
pub zip_end : {X Y : Type 0} (P : X → Y → Type 0) (xs : List X) (ys : List Y) (x : X) (y : Y) → AllZip P xs ys → P x y → AllZip P (xs ++ x ∷ []) (ys ++ y ∷ [])
zip_end P [] [] x y h p = (p, tt)
zip_end P [] (b ∷ ys) x y h p = absurd h
zip_end P (a ∷ xs) [] x y h p = absurd h
zip_end P (a ∷ xs) (b ∷ ys) x y h p = (h.0, zip_end P xs ys x y h.1 p)

-- with what holds of each of the first
pub zip_all : {X Y : Type 0} (A : X → Type 0) (P Q : X → Y → Type 0) → ((x : X) (y : Y) → A x → P x y → Q x y) → (xs : List X) (ys : List Y) → AllByRecursion A xs → AllZip P xs ys → AllZip Q xs ys
zip_all A P Q f [] [] a h = tt
zip_all A P Q f [] (y ∷ ys) a h = absurd h
zip_all A P Q f (x ∷ xs) [] a h = absurd h
zip_all A P Q f (x ∷ xs) (y ∷ ys) a h = (f x y a.0 h.0, zip_all A P Q f xs ys a.1 h.1)

-- with what holds of each of the second
pub zip_each : {X Y : Type 0} (A : Y → Type 0) (P Q : X → Y → Type 0) → ((x : X) (y : Y) → A y → P x y → Q x y) → (xs : List X) (ys : List Y) → AllByRecursion A ys → AllZip P xs ys → AllZip Q xs ys
zip_each A P Q f [] [] a h = tt
zip_each A P Q f [] (y ∷ ys) a h = absurd h
zip_each A P Q f (x ∷ xs) [] a h = absurd h
zip_each A P Q f (x ∷ xs) (y ∷ ys) a h = (f x y a.0 h.0, zip_each A P Q f xs ys a.1 h.1)

-- ---- values of each
-- f of each has what f of one has
pub each_holds : {N X Y : Type 0} (P : N → X → Type 0) (Q : N → Y → Type 0) (f : X → Option Y) → ((n : N) (x : X) (y : Y) → P n x → f x ≡ Some y → Q n y)
    → (ns : List N) (xs : List X) (ys : List Y) → AllZip P ns xs → each f xs ≡ Some ys → AllZip Q ns ys
each_holds P Q f h [] [] ys z e = let k : [] ≡ ys = cc in subst (AllZip Q []) k tt
each_holds P Q f h [] (x ∷ xs) ys z e = absurd z
each_holds P Q f h (n ∷ ns) [] ys z e = absurd z
each_holds P Q f h (n ∷ ns) (x ∷ xs) ys z e =
    let (d, ed, e) = and_then-some _ _ _ e in
    let (ds, eds, e) = and_then-some _ _ _ e in
    let k : d ∷ ds ≡ ys = cc in
    subst (AllZip Q (n ∷ ns)) k (h n x d z.0 ed, each_holds P Q f h ns xs ds z.1 eds)

-- so f of each two
pub each_two_holds : {N X Y Z : Type 0} (P : N → X → Type 0) (Q : N → Y → Type 0) (S : N → Z → Type 0) (f : X → Y → Option Z) → ((n : N) (x : X) (y : Y) (z : Z) → P n x → Q n y → f x y ≡ Some z → S n z)
    → (ns : List N) (xs : List X) (ys : List Y) (zs : List Z) → AllZip P ns xs → AllZip Q ns ys → each_two f xs ys ≡ Some zs → AllZip S ns zs
each_two_holds P Q S f h [] [] [] zs p q e = let k : [] ≡ zs = cc in subst (AllZip S []) k tt
each_two_holds P Q S f h [] [] (y ∷ ys) zs p q e = absurd q
each_two_holds P Q S f h [] (x ∷ xs) ys zs p q e = absurd p
each_two_holds P Q S f h (n ∷ ns) [] ys zs p q e = absurd p
each_two_holds P Q S f h (n ∷ ns) (x ∷ xs) [] zs p q e = absurd q
each_two_holds P Q S f h (n ∷ ns) (x ∷ xs) (y ∷ ys) zs p q e =
    let (d, ed, e) = and_then-some _ _ _ e in
    let (ds, eds, e) = and_then-some _ _ _ e in
    let k : d ∷ ds ≡ zs = cc in
    subst (AllZip S (n ∷ ns)) k (h n x y d p.0 q.0 ed, each_two_holds P Q S f h ns xs ys ds p.1 q.1 eds)

-- what each value came from
pub each_from : {X Y : Type 0} (f : X → Option Y) (xs : List X) (ys : List Y) → each f xs ≡ Some ys → AllZip (λ x y. f x ≡ Some y) xs ys
each_from f [] ys e = let k : [] ≡ ys = cc in subst (AllZip (λ x y. f x ≡ Some y) []) k tt
each_from f (x ∷ xs) ys e =
    let (d, ed, e) = and_then-some _ _ _ e in
    let (ds, eds, e) = and_then-some _ _ _ e in
    let k : d ∷ ds ≡ ys = cc in
    subst (AllZip (λ x y. f x ≡ Some y) (x ∷ xs)) k (ed, each_from f xs ds eds)

-- ---- members with their places
-- a member of the first with what stands at the same place of the second
pub zip_at : {X Y : Type 0} (P : X → Y → Type 0) (d : Y) (xs : List X) (ys : List Y) → AllZip P xs ys → EachAt (λ i x. P x (get_or ys i d)) xs
zip_at P d [] [] h = tt
zip_at P d [] (y ∷ ys) h = absurd h
zip_at P d (x ∷ xs) [] h = absurd h
zip_at P d (x ∷ xs) (y ∷ ys) h = (h.0, zip_at P d xs ys h.1)

-- two lists that belong to a third
pub zip_three : {N X Y : Type 0} (P : N → X → Type 0) (Q : N → Y → Type 0) (S : X → Y → Type 0) → ((n : N) (x : X) (y : Y) → P n x → Q n y → S x y) → (ns : List N) (xs : List X) (ys : List Y) → AllZip P ns xs → AllZip Q ns ys → AllZip S xs ys
zip_three P Q S f [] [] [] p q = tt
zip_three P Q S f [] [] (y ∷ ys) p q = absurd q
zip_three P Q S f [] (x ∷ xs) ys p q = absurd p
zip_three P Q S f (n ∷ ns) [] ys p q = absurd p
zip_three P Q S f (n ∷ ns) (x ∷ xs) [] p q = absurd q
zip_three P Q S f (n ∷ ns) (x ∷ xs) (y ∷ ys) p q = (f n x y p.0 q.0, zip_three P Q S f ns xs ys p.1 q.1)

-- what stands at a place
pub each_at : {X : Type 0} (P : ℕ → X → Type 0) (d : X) (xs : List X) (i : ℕ) → i < length xs → EachAt P xs → P i (get_or xs i d)
each_at P d [] i l h = absurd (omega arith)
each_at P d (x ∷ xs) zero l h = h.0
each_at P d (x ∷ xs) (suc i) l h = each_at (λ j. P (suc j)) d xs i (omega arith) h.1

pub got : {X : Type 0} (d : X) (xs : List X) (i : ℕ) (x : X) → slice_get xs i ≡ Some x → get_or xs i d ≡ x
got d [] i x e = absurd cc
got d (y ∷ xs) zero x e = let k : y ≡ x = cc in k
got d (y ∷ xs) (suc i) x e = got d xs i x e

-- ---- members by nodes
-- each member is what stands at its node's place
pub at_own_place : {X : Type 0} (d : X) (ordering : List ℕ) (xs : List X) → IsDistinct ordering → length xs ≡ length ordering → AllZip (λ n x. x ≡ get_or xs (place ordering n) d) ordering xs
at_own_place d [] [] s l = tt
at_own_place d [] (x ∷ xs) s l = absurd (omega arith)
at_own_place d (m ∷ ordering) [] s l = absurd (omega arith)
at_own_place d (m ∷ ordering) (x ∷ xs) s l = (
  subst (λ i. x ≡ get_or (x ∷ xs) i d) (sym (place-here m ordering)) refl,
  zip_all (λ n. m ≢ n) (λ n y. y ≡ get_or xs (place ordering n) d) (λ n y. y ≡ get_or (x ∷ xs) (place (m ∷ ordering) n) d)
      (λ n y a e. subst (λ i. y ≡ get_or (x ∷ xs) i d) (sym (place-later m n ordering a)) e) ordering xs s.0 (at_own_place d ordering xs s.1 (omega arith)),
)

-- ---- members by number
-- what holds of each number holds of each member with its place
pub each_below : {X : Type 0} (P : ℕ → X → Type 0) (d : X) (xs : List X) → ((i : ℕ) → i < length xs → P i (get_or xs i d)) → EachAt P xs
each_below P d [] h = tt
each_below P d (x ∷ xs) h = (h 0 (omega arith), each_below (λ i. P (suc i)) d xs (λ i l. h (suc i) (omega arith)))

pub zip_got : {X Y : Type 0} (P : X → Y → Type 0) (d : X) (e : Y) (xs : List X) (ys : List Y) → AllZip P xs ys → (i : ℕ) → i < length xs → P (get_or xs i d) (get_or ys i e)
zip_got P d e [] ys h i l = absurd (omega arith)
zip_got P d e (x ∷ xs) [] h i l = absurd h
zip_got P d e (x ∷ xs) (y ∷ ys) h zero l = h.0
zip_got P d e (x ∷ xs) (y ∷ ys) h (suc i) l = zip_got P d e xs ys h.1 i (omega arith)

pub each_got : {X Y : Type 0} (f : X → Option Y) (d : X) (e : Y) (xs : List X) (ys : List Y) → each f xs ≡ Some ys → (i : ℕ) → i < length xs → f (get_or xs i d) ≡ Some (get_or ys i e)
each_got f d e xs ys k i l = zip_got (λ x y. f x ≡ Some y) d e xs ys (each_from f xs ys k) i l

pub each_length : {X Y : Type 0} (f : X → Option Y) (xs : List X) (ys : List Y) → each f xs ≡ Some ys → length xs ≡ length ys
each_length f xs ys k = same_length (λ x y. f x ≡ Some y) xs ys (each_from f xs ys k)

pub each_two_got : {X Y Z : Type 0} (f : X → Y → Option Z) (d : X) (e : Y) (c : Z) (xs : List X) (ys : List Y) (zs : List Z) → each_two f xs ys ≡ Some zs → (i : ℕ) → i < length xs → f (get_or xs i d) (get_or ys i e) ≡ Some (get_or zs i c)
each_two_got f d e c [] ys zs k i l = absurd (omega arith)
each_two_got f d e c (x ∷ xs) [] zs k i l = absurd cc
each_two_got {Z = Z} f d e c (x ∷ xs) (y ∷ ys) zs k zero l =
    let (z, e1, k) = and_then-some (f x y) (λ z. and_then (each_two f xs ys) (λ zs. Some (z ∷ zs))) zs k in
    let (rest, e2, k) = and_then-some (each_two f xs ys) (λ zs. Some (z ∷ zs)) zs k in
    let q : z ∷ rest ≡ zs = cc in
    subst (λ (r : List Z). f x y ≡ Some (get_or r 0 c)) q e1
each_two_got {Z = Z} f d e c (x ∷ xs) (y ∷ ys) zs k (suc i) l =
    let (z, e1, k) = and_then-some (f x y) (λ z. and_then (each_two f xs ys) (λ zs. Some (z ∷ zs))) zs k in
    let (rest, e2, k) = and_then-some (each_two f xs ys) (λ zs. Some (z ∷ zs)) zs k in
    let q : z ∷ rest ≡ zs = cc in
    subst (λ (r : List Z). f (get_or xs i d) (get_or ys i e) ≡ Some (get_or r (suc i) c)) q (each_two_got f d e c xs ys rest e2 i (omega arith))

pub each_two_length : {X Y Z : Type 0} (f : X → Y → Option Z) (xs : List X) (ys : List Y) (zs : List Z) → each_two f xs ys ≡ Some zs → (length xs ≡ length ys) × (length xs ≡ length zs)
each_two_length {Z = Z} f [] [] zs k = let q : [] ≡ zs = cc in subst (λ (r : List Z). (◌≡◌ {A = ℕ} 0 0) × (◌≡◌ {A = ℕ} 0 (length r))) q (refl, refl)
each_two_length f [] (y ∷ ys) zs k = absurd cc
each_two_length f (x ∷ xs) [] zs k = absurd cc
each_two_length {Z = Z} f (x ∷ xs) (y ∷ ys) zs k =
    let (z, e1, k) = and_then-some (f x y) (λ z. and_then (each_two f xs ys) (λ zs. Some (z ∷ zs))) zs k in
    let (rest, e2, k) = and_then-some (each_two f xs ys) (λ zs. Some (z ∷ zs)) zs k in
    let q : z ∷ rest ≡ zs = cc in
    let r = each_two_length f xs ys rest e2 in
    subst (λ (t : List Z). (suc (length xs) ≡ suc (length ys)) × (suc (length xs) ≡ length t)) q (ap suc r.0, ap suc r.1)

pub get_or-map : {X Y : Type 0} (f : X → Y) (d : X) (e : Y) (xs : List X) (i : ℕ) → i < length xs → get_or (map f xs) i e ≡ f (get_or xs i d)
get_or-map f d e [] i l = absurd (omega arith)
get_or-map f d e (x ∷ xs) zero l = refl
get_or-map f d e (x ∷ xs) (suc i) l = get_or-map f d e xs i (omega arith)
