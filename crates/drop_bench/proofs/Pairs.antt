-- Loops that write f of each two elements of two lists into another.
use Rattle.std.proofs.Common.{◌≡◌, ℕ, ◌+◌, ◌<◌, ◌≤◌, List, [], ◌∷◌, ◌++◌, length, set, take, drop, map, Option, Some, None, refl, sym, ap, ◌∙◌, append-nil}
use Rattle.std.proofs.lemmas.List.{drop_all, take_all, take_more_set, length-map, map-set}
use Rattle.plain_elimination.proofs.Sweeps.{after, after_push, after_none}
use Rattle.certified_inverse.specs.Certificate.{each_two}

module _ {R X Y Z : Type 0} (h : R → Z) (f : X → Y → Option Z) (xs : List X) (ys : List Y) where
  -- f of all, from what is written up to i and what is left
  abbrev pub PairedTo : List R → ℕ → Type 0
  PairedTo new i = each_two f xs ys ≡ after (take i (map h new)) (each_two f (drop i xs) (drop i ys))

  pub paired_begins : (new : List R) → PairedTo new 0
  paired_begins new = sym (after_none (each_two f xs ys))

  one_paired : (x : X) (y : Y) (d : R) (front : List Z) (rest : List X) (others : List Y) → f x y ≡ Some (h d) → after front (each_two f (x ∷ rest) (y ∷ others)) ≡ after (front ++ h d ∷ []) (each_two f rest others)
  one_paired x y d front rest others e = rw e (after_push front (h d) (each_two f rest others))

  pub paired_more : (new : List R) (i : ℕ) (x : X) (y : Y) (d : R) → i < length new → drop i xs ≡ x ∷ drop (i + 1) xs → drop i ys ≡ y ∷ drop (i + 1) ys → Some (h d) ≡ f x y → PairedTo new i → PairedTo (set new i d) (i + 1)
  paired_more new i x y d l ex ey k p =
      p ∙ rw (ex, ey, map-set h new i d, take_more_set (map h new) i (h d) (rw (length-map new h) l)) (one_paired x y d (take i (map h new)) (drop (i + 1) xs) (drop (i + 1) ys) (sym k))

  pub paired_none : (new : List R) (i : ℕ) (x : X) (y : Y) → drop i xs ≡ x ∷ drop (i + 1) xs → drop i ys ≡ y ∷ drop (i + 1) ys → None ≡ f x y → PairedTo new i → each_two f xs ys ≡ None
  paired_none new i x y ex ey k p = p ∙ rw (ex, ey, ← k) refl

  pub paired_all : (new : List R) (i : ℕ) → length new ≤ i → length xs ≤ i → length ys ≤ i → PairedTo new i → each_two f xs ys ≡ Some (map h new)
  paired_all new i ln lx ly p = p ∙ rw (drop_all i xs lx, drop_all i ys ly, take_all i (map h new) (rw (length-map new h) ln)) (ap Some (append-nil (map h new)))
