-- Loops that change each element of a list, and the loop that looks for the greatest.
use Rattle.std.proofs.Common.{◌≡◌, ℕ, suc, ◌+◌, ◌<◌, ◌≤◌, Bool, true, false, List, [], ◌∷◌, ◌++◌, length, get_or, set, take, drop, map, max, nat_le, Option, Some, None, refl, sym, ap, ◌∙◌, append-nil, arith}
use Rattle.std.specs.Prelude.{if◌then◌else◌}
use Rattle.std.specs.List.{swap}
use Rattle.std.proofs.lemmas.List.{get_or-map, length-map, take_more_set, drop-set-lt, map-set, take_all, drop_all}
use Rattle.std.proofs.lemmas.List.Edits.{swap_is}
use Rattle.std.proofs.lemmas.Bool.Decides.{nat_tests}
pub use Rattle.plain_elimination.proofs.Sweeps.{read, after, after_push, after_none}
use Rattle.middle_inverse.specs.Lists.{and_then, each, each_two, greatest, first_greatest}

pub read_twice : {R X Y : Type 0} (g : X → Y) (h : R → X) (xs : List R) (i : ℕ) (x : R) → i < length xs → x ≡ get_or xs i x → drop i (map g (map h xs)) ≡ g (h x) ∷ drop (i + 1) (map g (map h xs))
read_twice g h xs i x l e = read g (map h xs) i (h x) (rw (length-map xs h) l) (ap h e ∙ sym (get_or-map h xs i x (h x) l))

-- ---- each element by itself
one_done : {X : Type 0} (f : X → Option X) (a d : X) (front xs : List X) → f a ≡ Some d → after front (each f (a ∷ xs)) ≡ after (front ++ d ∷ []) (each f xs)
one_done f a d front xs e = rw e (after_push front d (each f xs))

-- f of all, from what is left after i elements
abbrev pub EachTo : {R X : Type 0} → (R → X) → (X → Option X) → List R → List R → ℕ → Type 0
EachTo h f old new i = each f (map h old) ≡ after (take i (map h new)) (each f (drop i (map h new)))

pub each_begins : {R X : Type 0} (h : R → X) (f : X → Option X) (old : List R) → EachTo h f old old 0
each_begins h f old = sym (after_none _)

pub each_more : {R X : Type 0} (h : R → X) (f : X → Option X) (old new : List R) (i : ℕ) (a d : R) → i < length new → a ≡ get_or new i a → Some (h d) ≡ f (h a) → EachTo h f old new i → EachTo h f old (set new i d) (i + 1)
each_more h f old new i a d l ea e k =
    k
    ∙ rw (read h new i a l ea, map-set h new i d, take_more_set (map h new) i (h d) (rw (length-map new h) l), drop-set-lt (i + 1) (map h new) i (h d) (omega arith))
    (one_done f (h a) (h d) (take i (map h new)) (drop (i + 1) (map h new)) (sym e))

pub each_none : {R X : Type 0} (h : R → X) (f : X → Option X) (old new : List R) (i : ℕ) (a : R) → i < length new → a ≡ get_or new i a → None ≡ f (h a) → EachTo h f old new i → each f (map h old) ≡ None
each_none h f old new i a l ea e k = k ∙ rw (read h new i a l ea, ← e) refl

pub each_all : {R X : Type 0} (h : R → X) (f : X → Option X) (old new : List R) (i : ℕ) → length new ≤ i → EachTo h f old new i → each f (map h old) ≡ Some (map h new)
each_all h f old new i l k = k ∙ rw (take_all i (map h new) (rw (length-map new h) l), drop_all i (map h new) (rw (length-map new h) l)) (ap Some (append-nil (map h new)))

-- ---- each with one of another list
two_done : {X Y : Type 0} (f : X → Y → Option X) (a d : X) (b : Y) (front xs : List X) (ys : List Y) → f a b ≡ Some d → after front (each_two f (a ∷ xs) (b ∷ ys)) ≡ after (front ++ d ∷ []) (each_two f xs ys)
two_done f a d b front xs ys e = rw e (after_push front d (each_two f xs ys))

abbrev pub EachTwoTo : {R S X Y : Type 0} → (R → X) → (S → Y) → (X → Y → Option X) → List R → List R → List S → ℕ → Type 0
EachTwoTo h g f old new others i = each_two f (map h old) (map g others) ≡ after (take i (map h new)) (each_two f (drop i (map h new)) (drop i (map g others)))

pub each_two_begins : {R S X Y : Type 0} (h : R → X) (g : S → Y) (f : X → Y → Option X) (old : List R) (others : List S) → EachTwoTo h g f old old others 0
each_two_begins h g f old others = sym (after_none _)

pub each_two_more : {R S X Y : Type 0} (h : R → X) (g : S → Y) (f : X → Y → Option X) (old new : List R) (others : List S) (i : ℕ) (a d : R) (b : S) → i < length new → i < length others → a ≡ get_or new i a → b ≡ get_or others i b → Some (h d) ≡ f (h a) (g b)
    → EachTwoTo h g f old new others i → EachTwoTo h g f old (set new i d) others (i + 1)
each_two_more h g f old new others i a d b l lo ea eb e k =
    k
    ∙ rw (read h new i a l ea, read g others i b lo eb, map-set h new i d, take_more_set (map h new) i (h d) (rw (length-map new h) l), drop-set-lt (i + 1) (map h new) i (h d) (omega arith))
    (two_done f (h a) (h d) (g b) (take i (map h new)) (drop (i + 1) (map h new)) (drop (i + 1) (map g others)) (sym e))

pub each_two_none : {R S X Y : Type 0} (h : R → X) (g : S → Y) (f : X → Y → Option X) (old new : List R) (others : List S) (i : ℕ) (a : R) (b : S) → i < length new → i < length others → a ≡ get_or new i a → b ≡ get_or others i b → None ≡ f (h a) (g b)
    → EachTwoTo h g f old new others i → each_two f (map h old) (map g others) ≡ None
each_two_none h g f old new others i a b l lo ea eb e k = k ∙ rw (read h new i a l ea, read g others i b lo eb, ← e) refl

pub each_two_all : {R S X Y : Type 0} (h : R → X) (g : S → Y) (f : X → Y → Option X) (old new : List R) (others : List S) (i : ℕ) → length new ≤ i → length others ≤ i → EachTwoTo h g f old new others i → each_two f (map h old) (map g others) ≡ Some (map h new)
each_two_all h g f old new others i l lo k =
    k
    ∙ rw (take_all i (map h new) (rw (length-map new h) l), drop_all i (map h new) (rw (length-map new h) l), drop_all i (map g others) (rw (length-map others g) lo))
    (ap Some (append-nil (map h new)))

apart_cons : {Z : Type 0} (o : Option Z) (p : Option (List Z)) → p ≡ None → and_then o (λ z. and_then p (λ zs. Some (z ∷ zs))) ≡ None
apart_cons None p e = refl
apart_cons (Some z) p e = rw e refl

-- lists of other lengths have no common value
pub each_two_apart : {X Y Z : Type 0} (f : X → Y → Option Z) (xs : List X) (ys : List Y) → ¬ (length xs ≡ length ys) → each_two f xs ys ≡ None
each_two_apart f [] [] n = absurd (n refl)
each_two_apart f [] (y ∷ ys) n = refl
each_two_apart f (x ∷ xs) [] n = refl
each_two_apart f (x ∷ xs) (y ∷ ys) n = apart_cons (f x y) (each_two f xs ys) (each_two_apart f xs ys (λ e. n (ap suc e)))

-- ---- two rows change places
map-swap_by : {R X : Type 0} (h : R → X) (xs : List R) (i j : ℕ) (d : R) → i < length xs → j < length xs → map h (swap xs i j) ≡ swap (map h xs) i j
map-swap_by h xs i j d li lj =
    ap (map h) (sym (swap_is xs i j d li lj))
    ∙ map-set h (set xs i (get_or xs j d)) j (get_or xs i d)
    ∙ ap (λ ys. set ys j (h (get_or xs i d))) (map-set h xs i (get_or xs j d))
    ∙ rw (sym (get_or-map h xs i d (h d) li), sym (get_or-map h xs j d (h d) lj)) refl
    ∙ swap_is (map h xs) i j (h d) (rw (length-map xs h) li) (rw (length-map xs h) lj)

pub map-swap : {R X : Type 0} (h : R → X) (xs : List R) (i j : ℕ) → i < length xs → j < length xs → map h (swap xs i j) ≡ swap (map h xs) i j
map-swap h [] i j li lj = absurd (omega arith)
map-swap h (x ∷ xs) i j li lj = map-swap_by h (x ∷ xs) i j x li lj

-- ---- the first greatest
-- the greatest of what is behind i, and its place
pub record Found (sizes : List ℕ) (i place most : ℕ) : Type 0 where
  pub place_is : place ≡ i + first_greatest (drop i sizes)
  pub most_is : most ≡ greatest (drop i sizes)

test_true : (a b : ℕ) → a ≤ b → nat_le a b ≡ true
test_true a b l = grind (arith, nat_tests)

test_false : (a b : ℕ) → b < a → nat_le a b ≡ false
test_false a b l = grind (arith, nat_tests)

first_take : (t : Bool) (i k : ℕ) → t ≡ true → i ≡ i + (if t then 0 else k)
first_take true i k e = omega arith
first_take false i k e = absurd cc

first_pass : (t : Bool) (i k : ℕ) → t ≡ false → (i + 1) + k ≡ i + (if t then 0 else suc k)
first_pass true i k e = absurd cc
first_pass false i k e = omega arith

pub found_greater : (sizes : List ℕ) (i place most size : ℕ) → drop i sizes ≡ size ∷ drop (i + 1) sizes → most ≤ size → Found sizes (i + 1) place most → Found sizes i i size
found_greater sizes i place most size e l f =
    let m = f.most_is in
    record {
      place_is = rw e (first_take (nat_le (greatest (drop (i + 1) sizes)) size) i _ (test_true _ _ (omega arith)));
      most_is = rw e (let x : size ≡ max size (greatest (drop (i + 1) sizes)) = omega arith in x);
    }

pub found_less : (sizes : List ℕ) (i place most size : ℕ) → drop i sizes ≡ size ∷ drop (i + 1) sizes → size < most → Found sizes (i + 1) place most → Found sizes i place most
found_less sizes i place most size e l f =
    let m = f.most_is in
    record {
      place_is = f.place_is ∙ rw e (first_pass (nat_le (greatest (drop (i + 1) sizes)) size) i _ (test_false _ _ (omega arith)));
      most_is = rw e (let x : most ≡ max size (greatest (drop (i + 1) sizes)) = omega arith in x);
    }

if_below : (t : Bool) (k n : ℕ) → (t ≡ false → k < n) → (if t then 0 else suc k) < suc n
if_below true k n h = omega arith
if_below false k n h = let l = h refl in omega arith

not_empty : (xs : List ℕ) (x : ℕ) → x < greatest xs → 0 < length xs
not_empty [] x l = absurd (omega arith)
not_empty (y ∷ xs) x l = omega arith

le_false : (m n : ℕ) → nat_le m n ≡ false → n < m
le_false m n h = grind (arith, nat_tests)

pub first_greatest-below : (xs : List ℕ) → 0 < length xs → first_greatest xs < length xs
first_greatest-below [] l = absurd (omega arith)
first_greatest-below (x ∷ xs) l =
    if_below (nat_le (greatest xs) x) (first_greatest xs) (length xs) (λ e. first_greatest-below xs (not_empty xs x (le_false (greatest xs) x e)))

pub place_below : (sizes : List ℕ) (place most : ℕ) → 0 < length sizes → Found sizes 0 place most → place < length sizes
place_below sizes place most l f = let e = f.place_is in let b = first_greatest-below sizes l in let z : drop 0 sizes ≡ sizes = refl in let k : place ≡ 0 + first_greatest sizes = e in omega arith
