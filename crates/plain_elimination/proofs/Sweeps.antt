-- A sweep of a row, entry by entry.
use Rattle.std.proofs.Common.{◌≡◌, ℕ, ◌+◌, ◌<◌, ◌≤◌, List, [], ◌∷◌, ◌++◌, length, get_or, set, take, drop, map, Option, Some, None, refl, sym, ap, ◌∙◌, append_assoc, append-nil, arith}
use Rattle.std.specs.Option.{option_map}
use Rattle.std.proofs.lemmas.List.{drop_more, get_or-map, length-map, take_more_set, drop-set-lt, map-set, take_all, drop_all}
use Rattle.plain_elimination.specs.Elimination.{Enclosures, and_then, sweep}

-- the rest of a list of enclosures, where an entry was read
pub read : {R X : Type 0} (h : R → X) (xs : List R) (i : ℕ) (x : R) → i < length xs → x ≡ get_or xs i x → drop i (map h xs) ≡ h x ∷ drop (i + 1) (map h xs)
read h xs i x l e =
    drop_more (map h xs) i (h x) (rw (length-map xs h) l) ∙ ap (λ y. y ∷ drop (i + 1) (map h xs)) (get_or-map h xs i x (h x) l ∙ ap h (sym e))

-- a list after the front that is done
abbrev pub after : {X : Type 0} → List X → Option (List X) → Option (List X)
after front o = option_map (λ rest. front ++ rest) o

-- one more element of the front
pub after_push : {X : Type 0} (front : List X) (d : X) (o : Option (List X)) → after front (and_then o (λ ds. Some (d ∷ ds))) ≡ after (front ++ d ∷ []) o
after_push front d None = refl
after_push front d (Some ds) = ap Some (sym (append_assoc front (d ∷ []) ds))

pub after_none : {X : Type 0} (o : Option (List X)) → after [] o ≡ o
after_none None = refl
after_none (Some ds) = refl

module _ (B : Enclosures) where
  open B use {Enclosure, sub, mul}

  entry_done : (f a0 a t d : Enclosure) (front first row : List Enclosure) → mul f a0 ≡ Some t → sub a t ≡ Some d → after front (sweep B f (a0 ∷ first) (a ∷ row)) ≡ after (front ++ d ∷ []) (sweep B f first row)
  entry_done f a0 a t d front first row em es = rw (em, es) (after_push front d (sweep B f first row))

  -- the sweep by f of the whole, from what is left after i entries
  abbrev pub SweptTo : {R : Type 0} → (R → Enclosure) → Enclosure → List R → List R → List R → ℕ → Type 0
  SweptTo h f first old row i = sweep B f (map h first) (map h old) ≡ after (take i (map h row)) (sweep B f (drop i (map h first)) (drop i (map h row)))

  -- one entry more
  pub sweep_more : {R : Type 0} (h : R → Enclosure) (f t : Enclosure) (first old row : List R) (i : ℕ) (a0 a d : R) → i < length first → i < length row → a0 ≡ get_or first i a0 → a ≡ get_or row i a
      → Some t ≡ mul f (h a0) → Some (h d) ≡ sub (h a) t → SweptTo h f first old row i → SweptTo h f first old (set row i d) (i + 1)
  sweep_more h f t first old row i a0 a d lf lr ef er em es k =
      k
      ∙ rw (read h first i a0 lf ef, read h row i a lr er, map-set h row i d, take_more_set (map h row) i (h d) (rw (length-map row h) lr), drop-set-lt (i + 1) (map h row) i (h d) (omega arith))
      (entry_done f (h a0) (h a) t (h d) (take i (map h row)) (drop (i + 1) (map h first)) (drop (i + 1) (map h row)) (sym em) (sym es))

  -- a product without a value
  pub sweep_no_product : {R : Type 0} (h : R → Enclosure) (f : Enclosure) (first old row : List R) (i : ℕ) (a0 : R) → i < length first → i < length row → a0 ≡ get_or first i a0
      → None ≡ mul f (h a0) → SweptTo h f first old row i → sweep B f (map h first) (map h old) ≡ None
  sweep_no_product h f first old row i a0 lf lr ef em k =
      k ∙ rw (read h first i a0 lf ef, drop_more (map h row) i (h a0) (rw (length-map row h) lr), ← em) refl

  -- a difference without a value
  pub sweep_no_difference : {R : Type 0} (h : R → Enclosure) (f t : Enclosure) (first old row : List R) (i : ℕ) (a0 a : R) → i < length first → i < length row → a0 ≡ get_or first i a0 → a ≡ get_or row i a
      → Some t ≡ mul f (h a0) → None ≡ sub (h a) t → SweptTo h f first old row i → sweep B f (map h first) (map h old) ≡ None
  sweep_no_difference h f t first old row i a0 a lf lr ef er em es k =
      k ∙ rw (read h first i a0 lf ef, read h row i a lr er, ← em, ← es) refl

  -- all entries
  pub sweep_all : {R : Type 0} (h : R → Enclosure) (f : Enclosure) (first old row : List R) (i : ℕ) → length first ≤ i → length row ≤ i → SweptTo h f first old row i → sweep B f (map h first) (map h old) ≡ Some (map h row)
  sweep_all h f first old row i lf lr k =
      k
      ∙ rw (take_all i (map h row) (rw (length-map row h) lr), drop_all i (map h first) (rw (length-map first h) lf), drop_all i (map h row) (rw (length-map row h) lr))
      (ap Some (append-nil (map h row)))
