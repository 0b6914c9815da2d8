-- Loops that write whole numbers.
use Rattle.std.proofs.Common.{◌≡◌, ℕ, ◌+◌, ◌<◌, ◌≤◌, List, [], ◌∷◌, ◌++◌, length, get_or, set, take, drop, map, Option, Some, None, refl, sym, ap, ◌∙◌, append-nil, arith}
use Rattle.std.proofs.lemmas.List.{drop_all, take_all, take_more_set, drop-set-lt}
use Rattle.plain_elimination.proofs.Sweeps.{after, after_push, after_none}
use Rattle.certified_inverse.specs.Certificate.{each, each_two}
use Rattle.certified_inverse.proofs.Placed.{PlacedTo, placed_all, element}

pub same_some : {X : Type 0} {x y : X} → Some x ≡ Some y → x ≡ y
same_some e = cc

pub map-itself : (xs : List ℕ) → map (λ (n : ℕ). n) xs ≡ xs
map-itself [] = refl
map-itself (x ∷ xs) = ap (λ ys. x ∷ ys) (map-itself xs)

pub all_written : {X : Type 0} (f : X → Option ℕ) (all : List X) (new : List ℕ) (i : ℕ) → length new ≤ i → length all ≤ i → PlacedTo (λ (n : ℕ). n) f all new i → each f all ≡ Some new
all_written f all new i ln la p = placed_all (λ (n : ℕ). n) f all new i ln la p ∙ ap Some (map-itself new)

-- ---- f of each number with one of another list, in its place
-- f of all, from what is left after i numbers
abbrev pub TwoTo : {Y : Type 0} → (ℕ → Y → Option ℕ) → List ℕ → List ℕ → List Y → ℕ → Type 0
TwoTo f old new others i = each_two f old others ≡ after (take i new) (each_two f (drop i new) (drop i others))

pub two_begin : {Y : Type 0} (f : ℕ → Y → Option ℕ) (old : List ℕ) (others : List Y) → TwoTo f old old others 0
two_begin f old others = sym (after_none (each_two f old others))

one_done : {Y : Type 0} (f : ℕ → Y → Option ℕ) (a d : ℕ) (b : Y) (front xs : List ℕ) (ys : List Y) → f a b ≡ Some d → after front (each_two f (a ∷ xs) (b ∷ ys)) ≡ after (front ++ d ∷ []) (each_two f xs ys)
one_done f a d b front xs ys e = rw e (after_push front d (each_two f xs ys))

pub two_more : {Y : Type 0} (f : ℕ → Y → Option ℕ) (old new : List ℕ) (others : List Y) (i a d : ℕ) (b : Y) → i < length new → a ≡ get_or new i 0 → drop i others ≡ b ∷ drop (i + 1) others → Some d ≡ f a b → TwoTo f old new others i → TwoTo f old (set new i d) others (i + 1)
two_more f old new others i a d b l ea eb e k =
    k
    ∙ rw (element new i 0 a l ea, eb, take_more_set new i d l, drop-set-lt (i + 1) new i d (omega arith))
    (one_done f a d b (take i new) (drop (i + 1) new) (drop (i + 1) others) (sym e))

pub two_none : {Y : Type 0} (f : ℕ → Y → Option ℕ) (old new : List ℕ) (others : List Y) (i a : ℕ) (b : Y) → i < length new → a ≡ get_or new i 0 → drop i others ≡ b ∷ drop (i + 1) others → None ≡ f a b → TwoTo f old new others i → each_two f old others ≡ None
two_none f old new others i a b l ea eb e k = k ∙ rw (element new i 0 a l ea, eb, ← e) refl

pub two_all : {Y : Type 0} (f : ℕ → Y → Option ℕ) (old new : List ℕ) (others : List Y) (i : ℕ) → length new ≤ i → length others ≤ i → TwoTo f old new others i → each_two f old others ≡ Some new
two_all f old new others i ln lo k = k ∙ rw (take_all i new ln, drop_all i new ln, drop_all i others lo) (ap Some (append-nil new))
