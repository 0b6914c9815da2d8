-- Rows whose first entry is zero stay: the step of all rows passes over them.
use Rattle.std.proofs.Common.{◌≡◌, ℕ, zero, suc, ◌+◌, ◌*◌, ◌-◌, ◌<◌, ◌≤◌, List, ◌∷◌, length, get_or, take, drop, map, Some, refl, sym, subst, append-nil, ap, ◌∙◌, arith}
use Rattle.std.proofs.Math.Nat.{sub-zero}
use Rattle.std.proofs.lemmas.List.{drop_more, length-map}
use Rattle.exact_algebra.proofs.Differences.{products}
use Rattle.plain_elimination.specs.Elimination.{Enclosures, later_row, later_rows}
use Rattle.plain_elimination.specs.Layout.{rows_of, from_column}
use Rattle.plain_elimination.proofs.Layouts.{EliminatedTo, rows_more, row_fits}
use Rattle.plain_elimination.proofs.Sweeps.{after_none}
use Rattle.sparse_rows.proofs.Skipping.{ZeroLaws}

module _ (B : Enclosures) where
  open B use {Enclosure, is_zero}

  stays : {R : Type 0} (h : R → Enclosure) (z : Enclosure) (laws : ZeroLaws B h z) (pivot a : Enclosure) (first row : List Enclosure) → a ≡ z → Some row ≡ later_row B pivot first (a ∷ row)
  stays h z laws pivot a first row e = rw (e, laws.alone) refl

  skip_row : {R : Type 0} (h : R → Enclosure) (z : Enclosure) (laws : ZeroLaws B h z) (pivot : Enclosure) (first old cells : List R) (n w c i : ℕ) → i < n → w ≡ c + 1 + length first → length cells ≡ n * w
      → get_or (map h cells) (i * w + c) z ≡ z → EliminatedTo B h pivot first old cells n w c i → EliminatedTo B h pivot first old cells n w c (i + 1)
  skip_row h z laws pivot first old cells n w c i l e size head k =
      let fits = row_fits i n w l in
      let xs = map h cells in
      let lx : i * w + c < length xs = omega (arith, length-map cells h) in
      let apart : drop (i * w + c) xs ≡ get_or xs (i * w + c) z ∷ drop (i * w + c + 1) xs = drop_more xs (i * w + c) z lx in
      let row : Some (take (length first) (drop (i * w + c + 1) xs)) ≡ later_row B pivot (map h first) (take (suc (length first)) (drop (i * w + c) xs)) =
      rw apart (stays h z laws pivot (get_or xs (i * w + c) z) (map h first) (take (length first) (drop (i * w + c + 1) xs)) head) in
      rows_more B h pivot first old cells cells n w c i l e row refl refl k

  pub skip_rows : {R : Type 0} (h : R → Enclosure) (z : Enclosure) (laws : ZeroLaws B h z) (pivot : Enclosure) (first old cells : List R) (n w c d i m : ℕ) → i + d ≡ m → m ≤ n → w ≡ c + 1 + length first → length cells ≡ n * w
      → ((r : ℕ) → i ≤ r → r < m → get_or (map h cells) (r * w + c) z ≡ z) → EliminatedTo B h pivot first old cells n w c i → EliminatedTo B h pivot first old cells n w c m
  skip_rows h z laws pivot first old cells n w c zero i m e l ew size heads k = subst (λ p. EliminatedTo B h pivot first old cells n w c p) (omega arith) k
  skip_rows h z laws pivot first old cells n w c (suc d) i m e l ew size heads k =
      skip_rows h z laws pivot first old cells n w c d (i + 1) m (omega arith) l ew size (λ r p q. heads r (omega arith) q)
      (skip_row h z laws pivot first old cells n w c i (omega arith) ew size (heads i (omega arith) (omega arith)) k)

  pub eliminated_none : {R : Type 0} (h : R → Enclosure) (pivot : Enclosure) (first cells : List R) (n w c : ℕ) → EliminatedTo B h pivot first cells cells n w c 0
  eliminated_none h pivot first cells n w c =
      let start : 0 * w ≡ 0 = omega (arith, products) in
      rw (start, sub-zero) (sym (after_none (later_rows B pivot (map h first) (from_column c (rows_of n w (map h cells))))))

  pub eliminated_all : {R : Type 0} (h : R → Enclosure) (pivot : Enclosure) (first old cells : List R) (n w c i : ℕ) → i ≡ n → EliminatedTo B h pivot first old cells n w c i
      → later_rows B pivot (map h first) (from_column c (rows_of n w (map h old))) ≡ Some (from_column (c + 1) (rows_of n w (map h cells)))
  eliminated_all h pivot first old cells n w c i e k =
      let none : n - i ≡ 0 = omega arith in
      k ∙ rw (none, e) (ap Some (append-nil (from_column (c + 1) (rows_of n w (map h cells)))))
