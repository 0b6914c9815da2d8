-- The five steps of a column by the parts of its rows, and the columns one after another.
use Rattle.std.proofs.Common.{◌≡◌, ℕ, suc, ◌+◌, ◌-◌, ◌<◌, ◌≤◌, List, [], ◌∷◌, ◌++◌, length, get_or, set, take, drop, map, slice_get, Ok, Err, refl, sym, ap, ap₂, ◌∙◌, arith}
use Rattle.std.specs.List.{swap}
use Rattle.std.proofs.lemmas.List.{take-map, drop-map}
use Rattle.complex_interval.specs.Rectangles.{Rectangle}
use Rattle.middle_inverse.specs.Lists.{first_greatest}
use Rattle.middle_inverse.specs.Inverse.{bind, in_range, size_at, pivot_first, by_pivot, by_rows, column_step, columns_from}
use Rattle.middle_inverse.specs.declared.fault.InverseFault.{InverseFault}
use Rattle.middle_inverse.proofs.Each.{map-swap}

head_rest : {R : Type 0} (xs firsts below : List R) (f : R) → 0 < length xs → firsts ≡ take 1 xs → below ≡ drop 1 xs → f ≡ get_or firsts 0 f → xs ≡ f ∷ below
head_rest [] firsts below f l e1 e2 e3 = absurd (omega arith)
head_rest (x ∷ xs) firsts below f l e1 e2 e3 =
    let a : f ≡ x = e3 ∙ ap (λ ys. get_or ys 0 f) e1 in
    ap₂ (λ y ys. y ∷ ys) (sym a) (sym e2)

module _ {R : Type 0} (h : R → List Rectangle) (s : ℕ) where
  -- the pivot's row is looked for
  pub pivot_found : (j place : ℕ) (above : List (List Rectangle)) (rest swapped : List R) → place ≡ first_greatest (map (size_at j) (map h rest)) → 0 < length rest → place < length rest → swapped ≡ swap rest 0 place
      → by_rows s j above (map h swapped) ≡ by_rows s j above (pivot_first j (map h rest))
  pivot_found j place above rest swapped ep some lp es = ap (by_rows s j above) (ap (map h) es ∙ map-swap h rest 0 place some lp ∙ ap (λ p. swap (map h rest) 0 p) ep)

  -- the first row apart from those below it
  pub first_apart : (j : ℕ) (above : List (List Rectangle)) (rest firsts below : List R) (f : R) → 0 < length rest → firsts ≡ take 1 rest → below ≡ drop 1 rest → f ≡ get_or firsts 0 f
      → by_rows s j above (map h rest) ≡ bind (in_range (slice_get (h f) j)) (by_pivot s j above (h f) (map h below))
  first_apart j above rest firsts below f l ef eb e = ap (λ rows. by_rows s j above (map h rows)) (head_rest rest firsts below f l ef eb e)

  -- the first row written, with those below it
  pub first_written : (firsts below : List R) (d : R) → length firsts ≡ 1 → map h (set firsts 0 d ++ below) ≡ h d ∷ map h below
  first_written [] below d l = absurd (omega arith)
  first_written (x ∷ []) below d l = refl
  first_written (x ∷ y ∷ xs) below d l = absurd (omega arith)

  -- the rows above apart from the rest
  pub column_apart : (j : ℕ) (rows above rest : List R) → above ≡ take j rows → rest ≡ drop j rows → column_step s j (map h rows) ≡ by_rows s j (map h above) (pivot_first j (map h rest))
  column_apart j rows above rest ea er = ap₂ (λ a b. by_rows s j a (pivot_first j b)) (take-map h j rows ∙ ap (map h) (sym ea)) (drop-map h j rows ∙ ap (map h) (sym er))

  -- the columns of the whole, from what is left after j of them
  abbrev pub ColumnsTo : ℕ → List R → List R → ℕ → Type 0
  ColumnsTo n old new j = columns_from s 0 n (map h old) ≡ columns_from s j (n - j) (map h new)

  step_from : (j k : ℕ) (rows next : List (List Rectangle)) → column_step s j rows ≡ Ok next → columns_from s j (suc k) rows ≡ columns_from s (suc j) k next
  step_from j k rows next e = rw e refl

  fault_from : (j k : ℕ) (rows : List (List Rectangle)) (fault : InverseFault) → column_step s j rows ≡ Err fault → columns_from s j (suc k) rows ≡ Err fault
  fault_from j k rows fault e = rw e refl

  pub columns_more : (n j : ℕ) (old new next : List R) → j < n → Ok (map h next) ≡ column_step s j (map h new) → ColumnsTo n old new j → ColumnsTo n old next (j + 1)
  columns_more n j old new next l e k =
      let left : n - j ≡ suc (n - (j + 1)) = omega arith in
      let up : suc j ≡ j + 1 = omega arith in
      k ∙ ap (λ m. columns_from s j m (map h new)) left ∙ step_from j (n - (j + 1)) (map h new) (map h next) (sym e) ∙ ap (λ i. columns_from s i (n - (j + 1)) (map h next)) up

  pub columns_fault : (n j : ℕ) (old new : List R) (fault : InverseFault) → j < n → Err fault ≡ column_step s j (map h new) → ColumnsTo n old new j → columns_from s 0 n (map h old) ≡ Err fault
  columns_fault n j old new fault l e k =
      let left : n - j ≡ suc (n - (j + 1)) = omega arith in
      k ∙ ap (λ m. columns_from s j m (map h new)) left ∙ fault_from j (n - (j + 1)) (map h new) fault (sym e)

  pub columns_all : (n j : ℕ) (old new : List R) → n ≤ j → ColumnsTo n old new j → columns_from s 0 n (map h old) ≡ Ok (map h new)
  columns_all n j old new l k = let none : n - j ≡ 0 = omega arith in k ∙ ap (λ m. columns_from s j m (map h new)) none
