-- Rows in one list of cells, and one step of the elimination on them, row by row.
use Rattle.std.proofs.Common.{◌≡◌, ℕ, zero, suc, ◌+◌, ◌-◌, ◌*◌, ◌<◌, ◌≤◌, List, [], ◌∷◌, ◌++◌, length, get_or, take, drop, map, Some, None, refl, sym, ap, ap₂, ◌∙◌, add-one, add_assoc, arith}
use Rattle.std.proofs.Math.Nat.{mul-le-mul_right, suc-mul}
use Rattle.exact_algebra.proofs.Differences.{products}
use Rattle.std.proofs.lemmas.List.{drop-map, take-map, take-take, drop-take, drop-drop, map_push}
use Rattle.std.proofs.lemmas.Slice.{between-put_mid}
use borrow.Rule.Slice.PartMut.{put_mid}
use Rattle.plain_elimination.specs.Elimination.{Enclosures, later_row, later_rows}
use Rattle.plain_elimination.specs.Layout.{rows_of, from_column}
use Rattle.plain_elimination.proofs.Sweeps.{after, after_push, read}

-- the rows of a front
rows_take : {X : Type 0} (n w : ℕ) (xs : List X) → rows_of n w (take (n * w) xs) ≡ rows_of n w xs
rows_take zero w xs = refl
rows_take (suc n) w xs =
    let e : suc n * w ≡ w + n * w = omega (arith, products) in
    rw (e, take-take w (w + n * w) xs (omega arith), drop-take w (n * w) xs) (ap (λ rows. take w xs ∷ rows) (rows_take n w (drop w xs)))

pub rows_front : {X : Type 0} (n w : ℕ) (xs ys : List X) → take (n * w) xs ≡ take (n * w) ys → rows_of n w xs ≡ rows_of n w ys
rows_front n w xs ys e = sym (rows_take n w xs) ∙ ap (rows_of n w) e ∙ rows_take n w ys

-- one row more
pub rows_push : {X : Type 0} (n w : ℕ) (xs : List X) → rows_of (suc n) w xs ≡ rows_of n w xs ++ take w (drop (n * w) xs) ∷ []
rows_push zero w xs = let e : zero * w ≡ 0 = omega (arith, products) in rw e refl
rows_push (suc n) w xs =
    let e : suc n * w ≡ w + n * w = omega (arith, products) in
    ap (λ rows. take w xs ∷ rows) (rows_push n w (drop w xs)) ∙ rw (e, drop-drop (n * w) w xs) refl

-- the part of a row from a column on
pub part_of_row : {X : Type 0} (a c k w : ℕ) (xs : List X) → w ≡ c + k → drop c (take w (drop a xs)) ≡ take k (drop (a + c) xs)
part_of_row a c k w xs e = rw (e, drop-take c k (drop a xs), drop-drop c a xs) refl

-- a row ends where the rows end, or before
pub row_fits : (i n w : ℕ) → i < n → i * w + w ≤ n * w
row_fits i n w l = omega (arith, suc-mul i w, mul-le-mul_right w l)

-- what a write of a part leaves there
pub part_new : {R X : Type 0} (h : R → X) (cells ys : List R) (a n k : ℕ) → a + n ≤ length cells → length ys ≡ n → k ≡ n → take n (drop a (map h (put_mid a k cells ys))) ≡ map h ys
part_new h cells ys a n k fits l e =
    let part : take (a + n - a) (drop a (put_mid a k cells ys)) ≡ ys = between-put_mid a k cells ys (a + n) (omega arith) (omega arith) in
    let same : a + n - a ≡ n = omega arith in
    rw (drop-map h a (put_mid a k cells ys), take-map h n (drop a (put_mid a k cells ys))) (ap (map h) (rw same at part))

-- a part with the entry before it
pub part_old : {R X : Type 0} (h : R → X) (cells : List R) (s n k : ℕ) (e : R) → s < length cells → e ≡ get_or cells s e → k ≡ n → take (suc n) (drop s (map h cells)) ≡ h e ∷ map h (take k (drop (s + 1) cells))
part_old h cells s n k e l r q = rw (read h cells s e l r, drop-map h (s + 1) cells, q) (ap (λ row. h e ∷ row) (take-map h n (drop (s + 1) cells)))

module _ (B : Enclosures) where
  open B use {Enclosure}

  -- the step of all rows, from what is left after i rows
  abbrev pub EliminatedTo : {R : Type 0} → (R → Enclosure) → Enclosure → List R → List R → List R → ℕ → ℕ → ℕ → ℕ → Type 0
  EliminatedTo h pivot first old cells n w c i =
      later_rows B pivot (map h first) (from_column c (rows_of n w (map h old)))
      ≡ after (from_column (c + 1) (rows_of i w (map h cells))) (later_rows B pivot (map h first) (from_column c (rows_of (n - i) w (drop (i * w) (map h cells)))))

  -- the rows that are left, the next one apart
  pub next_row : (n w c i k : ℕ) (xs : List Enclosure) → i < n → w ≡ c + suc k
      → from_column c (rows_of (n - i) w (drop (i * w) xs)) ≡ take (suc k) (drop (i * w + c) xs) ∷ from_column c (rows_of (n - (i + 1)) w (drop (i * w + w) xs))
  next_row n w c i k xs l e =
      let m : n - i ≡ suc (n - (i + 1)) = omega arith in
      rw (m, drop-drop w (i * w) xs) (ap (λ row. row ∷ from_column c (rows_of (n - (i + 1)) w (drop (i * w + w) xs))) (part_of_row (i * w) c (suc k) w xs e))

  -- the rows that are done, with this one
  pub done_row : (w c i k : ℕ) (xs zs : List Enclosure) → w ≡ c + suc k → take (i * w + c + 1) zs ≡ take (i * w + c + 1) xs
      → from_column (c + 1) (rows_of (i + 1) w zs) ≡ from_column (c + 1) (rows_of i w xs) ++ take k (drop (i * w + c + 1) zs) ∷ []
  done_row w c i k xs zs e before =
      let front : take (i * w) zs ≡ take (i * w) xs = sym (take-take (i * w) (i * w + c + 1) zs (omega arith)) ∙ ap (take (i * w)) before ∙ take-take (i * w) (i * w + c + 1) xs (omega arith) in
      let part = part_of_row (i * w) (c + 1) k w zs (omega arith) in
      rw (add-one i) (ap (from_column (c + 1)) (rows_push i w zs))
      ∙ map_push (λ row. drop (c + 1) row) (rows_of i w zs) (take w (drop (i * w) zs))
      ∙ ap₂ (λ rows row. rows ++ row ∷ []) (ap (from_column (c + 1)) (rows_front i w zs xs front)) (part ∙ ap (λ a. take k (drop a zs)) (sym (add_assoc (i * w) c 1)))

  rectangles_more : (pivot : Enclosure) (first xs zs : List Enclosure) (n w c i k : ℕ) → i < n → w ≡ c + suc k → Some (take k (drop (i * w + c + 1) zs)) ≡ later_row B pivot first (take (suc k) (drop (i * w + c) xs))
      → take (i * w + c + 1) zs ≡ take (i * w + c + 1) xs → drop (i * w + w) zs ≡ drop (i * w + w) xs
      → after (from_column (c + 1) (rows_of i w xs)) (later_rows B pivot first (from_column c (rows_of (n - i) w (drop (i * w) xs))))
      ≡ after (from_column (c + 1) (rows_of (i + 1) w zs)) (later_rows B pivot first (from_column c (rows_of (n - (i + 1)) w (drop ((i + 1) * w) zs))))
  rectangles_more pivot first xs zs n w c i k l e row before behind =
      let m : (i + 1) * w ≡ i * w + w = omega (arith, products) in
      rw (next_row n w c i k xs l e, ← row, done_row w c i k xs zs e before, m, behind)
      (after_push (from_column (c + 1) (rows_of i w xs)) (take k (drop (i * w + c + 1) zs)) (later_rows B pivot first (from_column c (rows_of (n - (i + 1)) w (drop (i * w + w) xs)))))

  -- one row more
  pub rows_more : {R : Type 0} (h : R → Enclosure) (pivot : Enclosure) (first old cells new : List R) (n w c i : ℕ) → i < n → w ≡ c + 1 + length first
      → Some (take (length first) (drop (i * w + c + 1) (map h new))) ≡ later_row B pivot (map h first) (take (suc (length first)) (drop (i * w + c) (map h cells)))
      → take (i * w + c + 1) new ≡ take (i * w + c + 1) cells → drop (i * w + c + 1 + length first) new ≡ drop (i * w + c + 1 + length first) cells
      → EliminatedTo h pivot first old cells n w c i → EliminatedTo h pivot first old new n w c (i + 1)
  rows_more h pivot first old cells new n w c i l e row before behind k =
      let a : i * w + c + 1 + length first ≡ i * w + w = omega arith in
      let before' : take (i * w + c + 1) (map h new) ≡ take (i * w + c + 1) (map h cells) = take-map h (i * w + c + 1) new ∙ ap (map h) before ∙ sym (take-map h (i * w + c + 1) cells) in
      let behind' : drop (i * w + w) (map h new) ≡ drop (i * w + w) (map h cells) = drop-map h (i * w + w) new ∙ ap (map h) (rw a at behind) ∙ sym (drop-map h (i * w + w) cells) in
      k ∙ rectangles_more pivot (map h first) (map h cells) (map h new) n w c i (length first) l (omega arith) row before' behind'

  -- a row without a value
  pub rows_none : {R : Type 0} (h : R → Enclosure) (pivot : Enclosure) (first old cells : List R) (n w c i : ℕ) → i < n → w ≡ c + 1 + length first
      → None ≡ later_row B pivot (map h first) (take (suc (length first)) (drop (i * w + c) (map h cells)))
      → EliminatedTo h pivot first old cells n w c i → later_rows B pivot (map h first) (from_column c (rows_of n w (map h old))) ≡ None
  rows_none h pivot first old cells n w c i l e row k = k ∙ rw (next_row n w c i (length first) (map h cells) l (omega arith), ← row) refl
