-- What is left of a right side, term by term.
use Rattle.std.proofs.Common.{◌≡◌, ℕ, ◌+◌, ◌<◌, ◌≤◌, List, length, get_or, drop, map, Some, None, refl, ◌∙◌}
use Rattle.std.proofs.lemmas.List.{drop_all, length-map}
use Rattle.plain_elimination.specs.Elimination.{Enclosures, take_away}
use Rattle.plain_elimination.proofs.Sweeps.{read}

module _ (B : Enclosures) where
  open B use {Enclosure, sub, mul}

  -- the terms of the whole, from what is left after i of them
  abbrev pub TakenTo : {R : Type 0} → (R → Enclosure) → Enclosure → List R → List R → Enclosure → ℕ → Type 0
  TakenTo h b row xs rest i = take_away B b (map h row) (map h xs) ≡ take_away B rest (drop i (map h row)) (drop i (map h xs))

  pub taken_more : {R : Type 0} (h : R → Enclosure) (b rest t d : Enclosure) (row xs : List R) (i : ℕ) (a x : R) → i < length row → i < length xs → a ≡ get_or row i a → x ≡ get_or xs i x
      → Some t ≡ mul (h a) (h x) → Some d ≡ sub rest t → TakenTo h b row xs rest i → TakenTo h b row xs d (i + 1)
  taken_more h b rest t d row xs i a x lr lx ea ex em es k = k ∙ rw (read h row i a lr ea, read h xs i x lx ex, ← em, ← es) refl

  pub taken_no_product : {R : Type 0} (h : R → Enclosure) (b rest : Enclosure) (row xs : List R) (i : ℕ) (a x : R) → i < length row → i < length xs → a ≡ get_or row i a → x ≡ get_or xs i x
      → None ≡ mul (h a) (h x) → TakenTo h b row xs rest i → take_away B b (map h row) (map h xs) ≡ None
  taken_no_product h b rest row xs i a x lr lx ea ex em k = k ∙ rw (read h row i a lr ea, read h xs i x lx ex, ← em) refl

  pub taken_no_difference : {R : Type 0} (h : R → Enclosure) (b rest t : Enclosure) (row xs : List R) (i : ℕ) (a x : R) → i < length row → i < length xs → a ≡ get_or row i a → x ≡ get_or xs i x
      → Some t ≡ mul (h a) (h x) → None ≡ sub rest t → TakenTo h b row xs rest i → take_away B b (map h row) (map h xs) ≡ None
  taken_no_difference h b rest t row xs i a x lr lx ea ex em es k = k ∙ rw (read h row i a lr ea, read h xs i x lx ex, ← em, ← es) refl

  pub taken_all : {R : Type 0} (h : R → Enclosure) (b rest : Enclosure) (row xs : List R) (i : ℕ) → length row ≤ i → TakenTo h b row xs rest i → take_away B b (map h row) (map h xs) ≡ Some rest
  taken_all h b rest row xs i lr k = k ∙ rw (drop_all i (map h row) (rw (length-map row h) lr)) refl
