-- What the gaps of filled marks list: a bench.
use Rattle.std.proofs.Common.{◌≡◌, ⊎_elim, inl, inr, ℕ, ◌+◌, ◌*◌, ◌<◌, ◌≤◌, List, length, get_or, take, drop, replicate, Bool, true, false, sym, ap, ap₂, ◌∙◌, arith}
use Rattle.std.proofs.lemmas.Bool.{cases_Bool}
use Rattle.std.proofs.lemmas.List.{get_or-take, get_or-drop, get_or-replicate, get_or_default, get_or_past, length-replicate}
use Rattle.std.proofs.lemmas.List.Elements.{All-weaker}
use Rattle.plain_elimination.specs.declared.pattern.Spot.{Spot}
use Rattle.plain_elimination.specs.Matrix.{nought_rectangle}
use Rattle.plain_elimination.proofs.Layouts.{row_fits}
use Rattle.plain_elimination.proofs.Places.{row_length}
use Rattle.plain_elimination.specs.Pattern.{IsNoPlace}
use Rattle.plain_elimination.specs.declared.limits.TheConstants.{MAX_SIZE}
use Rattle.sparse_rows.specs.Bench.{IsBench}
use Rattle.sparse_rows.specs.Gaps.{gaps_of}
use Rattle.sparse_rows.specs.Listed.{Out, ZeroOutside, IsFill}
use Rattle.sparse_rows.specs.Marks.{IsMarked, IsFilled, HasGaps}
use Rattle.sparse_rows.proofs.RowGaps as G
use Rattle.sparse_rows.proofs.Outside.{by_lt}

module _ (n : ℕ) (places : List Spot) (marks : List Bool) (gaps : List ℕ) (filled : IsFilled n places marks) (size : length gaps ≡ n * n) (rows : HasGaps n n marks gaps) where
  -- ---- marks and gaps of a row, at a place of the square
  inside : (k j : ℕ) → k < n → j < n → k * n + j < n * n
  inside k j lk lj = omega (arith, row_fits k n n lk)

  mark_at : (k j : ℕ) (b : Bool) → j < n → get_or (take n (drop (k * n) marks)) j b ≡ get_or marks (k * n + j) b
  mark_at k j b l = get_or-take n (drop (k * n) marks) j b l ∙ get_or-drop (k * n) marks j b

  any_default : (k j : ℕ) → k < n → j < n → get_or marks (k * n + j) true ≡ get_or marks (k * n + j) false
  any_default k j lk lj = get_or_default marks (k * n + j) true false (omega (arith, inside k j lk lj, filled.square))

  gap_at : (k j d : ℕ) → k < n → j < n → get_or gaps (k * n + j) d ≡ get_or (gaps_of (take n (drop (k * n) marks))) j d
  gap_at k j d lk lj = sym (get_or-take n (drop (k * n) gaps) j d lj ∙ get_or-drop (k * n) gaps j d) ∙ ap (λ xs. get_or xs j d) (rows k lk)

  listed_at : (k j : ℕ) → k < n → j < n → IsMarked marks (k * n + j) → 1 ≤ get_or gaps (k * n + j) 0
  listed_at k j lk lj m = omega (arith, gap_at k j 0 lk lj, G.listed (take n (drop (k * n) marks)) j (mark_at k j false lj ∙ m))

  out_at : (k j : ℕ) → k < n → j < n → get_or (take n (drop (k * n) marks)) j true ≡ false → Out gaps (k * n + j)
  out_at k j lk lj m = gap_at k j 1 lk lj ∙ G.not_listed (take n (drop (k * n) marks)) j m

  -- a place is marked or out
  by_mark : {P : Type 0} (k j : ℕ) → k < n → j < n → (IsMarked marks (k * n + j) → P) → (Out gaps (k * n + j) → P) → P
  by_mark k j lk lj on_mark on_out =
      ⊎_elim
      on_mark
      (λ (e : get_or marks (k * n + j) false ≡ false). on_out (out_at k j lk lj (mark_at k j true lj ∙ any_default k j lk lj ∙ e)))
      (cases_Bool (get_or marks (k * n + j) false))

  not_both : {P : Type 0} (k j : ℕ) → k < n → j < n → IsMarked marks (k * n + j) → Out gaps (k * n + j) → P
  not_both k j lk lj m out =
      let same : get_or gaps (k * n + j) 0 ≡ get_or gaps (k * n + j) 1 = get_or_default gaps (k * n + j) 0 1 (omega (arith, inside k j lk lj)) in
      absurd (omega (arith, listed_at k j lk lj m))

  -- ---- the fill
  across : (i j : ℕ) → i < n → j < n → Out gaps (i * n + j) → Out gaps (j * n + i)
  across i j li lj out = by_mark j i lj li (λ m. not_both i j li lj (filled.across j i lj li m) out) (λ o. o)

  closed : (k i j : ℕ) → k < i → k < j → i < n → j < n → IsMarked marks (k * n + i) → IsMarked marks (k * n + j) → IsMarked marks (i * n + j)
  closed k i j h h' li lj mi mj =
      by_lt i j
      (λ (l : i < j). filled.closed k i j h l lj mi mj)
      (λ (l : j ≤ i).
      by_lt j i
      (λ (m : j < i). filled.across j i lj li (filled.closed k j i h' m li mj mi))
      (λ (m : i ≤ j). let same : i ≡ j = omega arith in ap (λ r. get_or marks (i * n + r) false) (sym same) ∙ filled.diagonal i li))

  fill : IsFill gaps n
  fill = record {
    diagonal = λ k l. listed_at k k l l (filled.diagonal k l);
    across = across;
    closed = λ k i j h h' li lj out.
        by_mark k i (omega arith) li
        (λ mi. by_mark k j (omega arith) lj (λ mj. not_both i j li lj (closed k i j h h' li lj mi mj) out) (λ o. inr o))
        (λ o. inl o);
    within = λ k j h lj.
        let lk : k < n = omega arith in
        let width = row_length n k marks lk filled.square in
        omega (arith, gap_at k j 0 lk lj, G.within (take n (drop (k * n) marks)) j (omega arith));
    next = λ k j h lj live inner.
        let lk : k < n = omega arith in
        let width = row_length n k marks lk filled.square in
        let gap = gap_at k j 0 lk lj in
        let to = j + get_or gaps (k * n + j) 0 in
        listed_at k to lk inner (sym (mark_at k to false inner) ∙ G.next (take n (drop (k * n) marks)) j to (omega arith) (omega arith) (omega arith));
    between = λ k i j h l m lj.
        let lk : k < n = omega arith in
        let gap = gap_at k i 0 lk (omega arith) in
        out_at k j lk lj (G.between (take n (drop (k * n) marks)) i j l (omega arith));
  }

  -- ---- the bench
  covered : (row column : ℕ) → row < n → column < n → Out gaps (row * n + column) → IsNoPlace places row column
  covered row column lr lc out =
      All-weaker (λ s. IsMarked marks (s.row * n + s.column)) (λ s. s.row ≡ row → s.column ≡ column → ⊥)
      (λ s m er ec. not_both row column lr lc (ap₂ (λ r c. get_or marks (r * n + c) false) (sym er) (sym ec) ∙ m) out)
      places filled.covers

  zeros : ZeroOutside gaps (replicate (n * n) nought_rectangle)
  zeros q out =
      by_lt q (n * n)
      (λ (l : q < n * n). get_or-replicate (n * n) q nought_rectangle nought_rectangle l)
      (λ (l : n * n ≤ q). get_or_past (replicate (n * n) nought_rectangle) q nought_rectangle (omega (arith, length-replicate (n * n) nought_rectangle)))

  pub bench : 1 ≤ n → n ≤ MAX_SIZE → IsBench n places gaps (replicate (n * n) nought_rectangle) (replicate n nought_rectangle)
  bench some few = record {
    some = some;
    few = few;
    gap_size = size;
    square = length-replicate (n * n) nought_rectangle;
    side_size = length-replicate n nought_rectangle;
    fill = fill;
    zeros = zeros;
    covered = covered;
  }
