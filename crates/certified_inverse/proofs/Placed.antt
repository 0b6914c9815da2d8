-- Loops that write f of each element of one list into another.
use Rattle.std.proofs.Common.{◌≡◌, ℕ, ◌+◌, ◌<◌, ◌≤◌, List, [], ◌∷◌, ◌++◌, length, get_or, set, take, drop, map, Option, Some, None, refl, sym, ap, ◌∙◌, append-nil}
use Rattle.std.proofs.lemmas.List.{drop_all, take_all, drop_more, take_more_set, length-map, map-set}
use Rattle.plain_elimination.proofs.Sweeps.{after, after_push, after_none}
use Rattle.certified_inverse.specs.Certificate.{each}

-- an element by its number
pub element : {X : Type 0} (xs : List X) (i : ℕ) (d x : X) → i < length xs → x ≡ get_or xs i d → drop i xs ≡ x ∷ drop (i + 1) xs
element xs i d x l e = drop_more xs i d l ∙ ap (λ y. y ∷ drop (i + 1) xs) (sym e)

module _ {R X Y : Type 0} (h : R → Y) (f : X → Option Y) (all : List X) where
  -- f of all, from what is written up to i and what is left
  abbrev pub PlacedTo : List R → ℕ → Type 0
  PlacedTo new i = each f all ≡ after (take i (map h new)) (each f (drop i all))

  pub placed_begins : (new : List R) → PlacedTo new 0
  placed_begins new = sym (after_none (each f all))

  one_placed : (x : X) (d : R) (front : List Y) (xs : List X) → f x ≡ Some (h d) → after front (each f (x ∷ xs)) ≡ after (front ++ h d ∷ []) (each f xs)
  one_placed x d front xs e = rw e (after_push front (h d) (each f xs))

  pub placed_more : (new : List R) (i : ℕ) (x : X) (d : R) → i < length new → drop i all ≡ x ∷ drop (i + 1) all → Some (h d) ≡ f x → PlacedTo new i → PlacedTo (set new i d) (i + 1)
  placed_more new i x d l e k p =
      p ∙ rw (e, map-set h new i d, take_more_set (map h new) i (h d) (rw (length-map new h) l)) (one_placed x d (take i (map h new)) (drop (i + 1) all) (sym k))

  pub placed_none : (new : List R) (i : ℕ) (x : X) → drop i all ≡ x ∷ drop (i + 1) all → None ≡ f x → PlacedTo new i → each f all ≡ None
  placed_none new i x e k p = p ∙ rw (e, ← k) refl

  pub placed_all : (new : List R) (i : ℕ) → length new ≤ i → length all ≤ i → PlacedTo new i → each f all ≡ Some (map h new)
  placed_all new i ln la p = p ∙ rw (drop_all i all la, take_all i (map h new) (rw (length-map new h) ln)) (ap Some (append-nil (map h new)))
