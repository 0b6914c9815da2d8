-- One step of a square: what its gaps list, and that the places outside stay zero.
use Rattle.std.proofs.Common.{◌≡◌, ⊎_elim, inl, inr, ℕ, ◌+◌, ◌*◌, ◌-◌, ◌<◌, ◌≤◌, List, ◌++◌, length, get_or, take, drop, map, refl, sym, subst, ap, ◌∙◌, arith}
use Rattle.std.proofs.lemmas.List.{get_or-take, get_or-drop, drop-map, take-map, length-drop, length-map, length-take-le, map-append, drop_at, take_at}
use Rattle.exact_algebra.proofs.Differences.{products}
use Rattle.complex_interval.specs.Rectangles.{Rectangle}
use Rattle.plain_elimination.specs.Layout.{pivot_row}
use Rattle.plain_elimination.specs.Matrix.{nought_rectangle}
use Rattle.plain_elimination.proofs.Left.{cells_behind, first_size, first_is}
use Rattle.sparse_rows.specs.Listed.{Skips, ZeroAt, Out, ZeroOutside, KeepsZeros, IsFill}
use Rattle.sparse_rows.proofs.Outside.{by_lt}

pub resized : (first first' : List Rectangle) (n n' w w' c : ℕ) (old new : List Rectangle) → first ≡ first' → n ≡ n' → w ≡ w' → KeepsZeros first n w c old new → KeepsZeros first' n' w' c old new
resized first first' n n' w w' c old new ef en ew k = rw (← ef, ← en, ← ew) k

-- an entry of the pivot's row behind the pivot
pub tail_at : {X : Type 0} (xs : List X) (size k j : ℕ) (d : X) → k + 1 + j < size → get_or (drop 1 (pivot_row size k xs)) j d ≡ get_or xs (k * size + (k + 1 + j)) d
tail_at xs size k j d l =
    let b : (k + 1) * size ≡ k * size + size = omega (arith, products) in
    let e : k * size + k + (1 + j) ≡ k * size + (k + 1 + j) = omega arith in
    get_or-drop 1 (pivot_row size k xs) j d
    ∙ get_or-drop (k * size + k) (take ((k + 1) * size) xs) (1 + j) d
    ∙ get_or-take ((k + 1) * size) xs (k * size + k + (1 + j)) d (omega arith)
    ∙ ap (λ i. get_or xs i d) e

pub head_at : {X : Type 0} (xs : List X) (size k : ℕ) (d : X) → k < size → get_or (pivot_row size k xs) 0 d ≡ get_or xs (k * size + k) d
head_at xs size k d l =
    let b : (k + 1) * size ≡ k * size + size = omega (arith, products) in
    let e : k * size + k + 0 ≡ k * size + k = omega arith in
    get_or-drop (k * size + k) (take ((k + 1) * size) xs) 0 d
    ∙ get_or-take ((k + 1) * size) xs (k * size + k + 0) d (omega arith)
    ∙ ap (λ i. get_or xs i d) e

-- what the gaps behind the diagonal list
pub listed_behind : (P : ℕ → Type 0) (gaps : List ℕ) (size k : ℕ) → IsFill gaps size → k < size → length gaps ≡ size * size
    → ((j : ℕ) → k + 1 + j < size → Out gaps (k * size + (k + 1 + j)) → P j)
    → Skips P (drop 1 (pivot_row size k gaps)) (get_or (pivot_row size k gaps) 0 0 - 1)
listed_behind P gaps size k fill l square p =
    let row = pivot_row size k gaps in
    let behind = drop 1 row in
    let whole : k + length row ≡ size = first_size k size gaps (take ((k + 1) * size) gaps) row l square refl refl in
    let count : length behind ≡ length row - 1 = length-drop 1 row in
    let head = head_at gaps size k 0 l in
    let diagonal : 1 ≤ get_or gaps (k * size + k) 0 = fill.diagonal k l in
    let within : k + get_or gaps (k * size + k) 0 ≤ size = fill.within k k (omega arith) l in
    let start = get_or row 0 0 - 1 in
    let at : (j : ℕ) → k + 1 + j < size → get_or behind j 0 ≡ get_or gaps (k * size + (k + 1 + j)) 0 = λ j m. tail_at gaps size k j 0 m in
    record {
      inside = omega arith;
      before = λ i m.
          let a : k < k + 1 + i = omega arith in
          let b : k + 1 + i < k + get_or gaps (k * size + k) 0 = omega arith in
          p i (omega arith) (fill.between k k (k + 1 + i) (omega arith) a b (omega arith));
      first = λ m.
          let inner : k + get_or gaps (k * size + k) 0 < size = omega arith in
          let e : k + 1 + start ≡ k + get_or gaps (k * size + k) 0 = omega arith in
          rw (at start (omega arith), e) (fill.next k k (omega arith) l diagonal inner);
      next = λ i m live inner.
          let here = at i (omega arith) in
          let j = k + 1 + i in
          let live' : 1 ≤ get_or gaps (k * size + j) 0 = rw (← here) live in
          let inner' : j + get_or gaps (k * size + j) 0 < size = rw (← here) (omega arith) in
          let e : k + 1 + (i + get_or behind i 0) ≡ j + get_or gaps (k * size + j) 0 = omega arith in
          rw (at (i + get_or behind i 0) (omega arith), e) (fill.next k j (omega arith) (omega arith) live' inner');
      within = λ i m.
          let here = at i (omega arith) in
          let j = k + 1 + i in
          let most : j + get_or gaps (k * size + j) 0 ≤ size = fill.within k j (omega arith) (omega arith) in
          omega arith;
      between = λ i j m above below.
          let here = at i (omega arith) in
          let most : k + 1 + i + get_or gaps (k * size + (k + 1 + i)) 0 ≤ size = fill.within k (k + 1 + i) (omega arith) (omega arith) in
          p j (omega arith) (fill.between k (k + 1 + i) (k + 1 + j) (omega arith) (omega arith) (omega arith) (omega arith));
    }

-- a place of a later row
later_place : (k size r c : ℕ) → (k + 1) * size + (r * size + c) ≡ (k + 1 + r) * size + c
later_place k size r c = omega (arith, products)

module _ {R : Type 0} (h : R → Rectangle) (gaps : List ℕ) (size k : ℕ) (cells done later line : List R) (fill : IsFill gaps size) (l : k < size) (zeros : ZeroOutside gaps (map h cells))
    (ed : done ≡ take ((k + 1) * size) cells) (el : later ≡ drop ((k + 1) * size) cells) (ef : line ≡ drop (k * size + k) done) where
  later_at : (i : ℕ) → get_or (map h later) i nought_rectangle ≡ get_or (map h cells) ((k + 1) * size + i) nought_rectangle
  later_at i = ap (λ xs. get_or (map h xs) i nought_rectangle) el ∙ ap (λ xs. get_or xs i nought_rectangle) (sym (drop-map h ((k + 1) * size) cells)) ∙ get_or-drop ((k + 1) * size) (map h cells) i nought_rectangle

  pub column_zero : (j : ℕ) → k + 1 + j < size → Out gaps (k * size + (k + 1 + j)) → ZeroAt (map h (drop 1 line)) j
  column_zero j m out =
      let e : map h (drop 1 line) ≡ drop 1 (pivot_row size k (map h cells)) = sym (drop-map h 1 line) ∙ ap (drop 1) (first_is h k size cells done line ed ef) in
      ap (λ xs. get_or xs j nought_rectangle) e ∙ tail_at (map h cells) size k j nought_rectangle m ∙ zeros (k * size + (k + 1 + j)) out

  pub row_zero : (r : ℕ) → k + 1 + r < size → Out gaps (k * size + (k + 1 + r)) → ZeroAt (map h later) (r * size + k)
  row_zero r m out =
      let across = fill.across k (k + 1 + r) l m out in
      later_at (r * size + k) ∙ ap (λ i. get_or (map h cells) i nought_rectangle) (later_place k size r k) ∙ zeros ((k + 1 + r) * size + k) across

  pub column_zeros : (new : List R) → length cells ≡ size * size → KeepsZeros (map h (drop 1 line)) (size - 1 - k) size k (map h later) (map h new) → ZeroOutside gaps (map h (done ++ new))
  column_zeros new square keeps q out =
      let b = (k + 1) * size in
      let fits = cells_behind k size l in
      let ld : length (map h done) ≡ b = length-map done h ∙ ap length ed ∙ length-take-le b cells (omega arith) in
      let outside : (i : ℕ) → Out (drop b gaps) i → Out gaps (b + i) = λ i o. sym (get_or-drop b gaps i 1) ∙ o in
      let behind = keeps (drop b gaps) (λ i o. later_at i ∙ zeros (b + i) (outside i o))
      (λ r j lr lj o.
      let e : b + (r * size + k + 1 + j) ≡ (k + 1 + r) * size + (k + 1 + j) = omega (arith, products) in
      let there : Out gaps ((k + 1 + r) * size + (k + 1 + j)) = subst (Out gaps) e (outside (r * size + k + 1 + j) o) in
      ⊎_elim
      (λ (u : Out gaps (k * size + (k + 1 + r))).
      inr (get_or-drop b gaps (r * size + k) 1 ∙ ap (λ i. get_or gaps i 1) (later_place k size r k) ∙ fill.across k (k + 1 + r) l (omega arith) u))
      (λ (u : Out gaps (k * size + (k + 1 + j))). inl (column_zero j (omega arith) u))
      (fill.closed k (k + 1 + r) (k + 1 + j) (omega arith) (omega arith) (omega arith) (omega arith) there))
      in
      by_lt q b
      (λ (m : q < b).
      let front : take b (map h (done ++ new)) ≡ take b (map h cells) = ap (take b) (map-append h done new) ∙ take_at (map h done) (map h new) b ld ∙ ap (map h) ed ∙ sym (take-map h b cells) in
      sym (get_or-take b (map h (done ++ new)) q nought_rectangle m) ∙ ap (λ xs. get_or xs q nought_rectangle) front ∙ get_or-take b (map h cells) q nought_rectangle m ∙ zeros q out)
      (λ (m : b ≤ q).
      let e : b + (q - b) ≡ q = omega arith in
      let o : Out (drop b gaps) (q - b) = get_or-drop b gaps (q - b) 1 ∙ subst (Out gaps) (sym e) out in
      let back : drop b (map h (done ++ new)) ≡ map h new = ap (drop b) (map-append h done new) ∙ drop_at (map h done) (map h new) b ld in
      subst (ZeroAt (map h (done ++ new))) e (sym (get_or-drop b (map h (done ++ new)) (q - b) nought_rectangle) ∙ ap (λ xs. get_or xs (q - b) nought_rectangle) back ∙ behind (q - b) o))
