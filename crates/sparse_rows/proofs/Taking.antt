-- Places where a row is zero: taking the unknowns away passes over them.
use Rattle.std.proofs.Common.{◌≡◌, ℕ, zero, suc, ◌+◌, ◌<◌, ◌≤◌, List, ◌∷◌, length, get_or, drop, map, subst, ap, ◌∙◌, refl, arith}
use Rattle.std.proofs.lemmas.List.{drop_more, length-map}
use Rattle.plain_elimination.specs.Elimination.{Enclosures}
use Rattle.plain_elimination.proofs.Rests.{TakenTo}
use Rattle.sparse_rows.proofs.Skipping.{ZeroLaws}

module _ (B : Enclosures) where
  open B use {Enclosure}

  skip_term : {R : Type 0} (h : R → Enclosure) (z : Enclosure) (laws : ZeroLaws B h z) (b : Enclosure) (row xs : List R) (rest : R) (i : ℕ) → i < length row → i < length xs → get_or (map h row) i z ≡ z
      → TakenTo B h b row xs (h rest) i → TakenTo B h b row xs (h rest) (i + 1)
  skip_term h z laws b row xs rest i lr lx e k =
      let x = get_or (map h xs) i z in
      let er : drop i (map h row) ≡ z ∷ drop (i + 1) (map h row) = drop_more (map h row) i z (rw (length-map row h) lr) ∙ ap (λ y. y ∷ drop (i + 1) (map h row)) e in
      let ex : drop i (map h xs) ≡ x ∷ drop (i + 1) (map h xs) = drop_more (map h xs) i z (rw (length-map xs h) lx) in
      k ∙ rw (er, ex, laws.zero_times x, laws.less rest) refl

  pub skip_terms : {R : Type 0} (h : R → Enclosure) (z : Enclosure) (laws : ZeroLaws B h z) (b : Enclosure) (row xs : List R) (rest : R) (d i n : ℕ) → i + d ≡ n → n ≤ length row → n ≤ length xs
      → ((j : ℕ) → i ≤ j → j < n → get_or (map h row) j z ≡ z) → TakenTo B h b row xs (h rest) i → TakenTo B h b row xs (h rest) n
  skip_terms h z laws b row xs rest zero i n e lr lx zeros k = subst (λ m. TakenTo B h b row xs (h rest) m) (omega arith) k
  skip_terms h z laws b row xs rest (suc d) i n e lr lx zeros k =
      skip_terms h z laws b row xs rest d (i + 1) n (omega arith) lr lx (λ j l m. zeros j (omega arith) m)
      (skip_term h z laws b row xs rest i (omega arith) (omega arith) (zeros i (omega arith) (omega arith)) k)
