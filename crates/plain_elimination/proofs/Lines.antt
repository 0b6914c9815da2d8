-- One step of the elimination on rows with their right sides, line by line.
use Rattle.std.proofs.Common.{◌≡◌, ℕ, zero, suc, ◌+◌, ◌-◌, ◌*◌, ◌<◌, List, [], ◌∷◌, ◌++◌, length, get_or, set, take, drop, map, Some, None, refl, sym, ap, ap₂, ◌∙◌, append-nil, arith}
use Rattle.std.proofs.lemmas.List.{length-map, length-set, drop-set-lt, map-set, take-map, drop-map}
use Rattle.exact_algebra.proofs.Differences.{products}
use Rattle.plain_elimination.specs.Elimination.{Enclosures, lines_of, later_line, later_lines}
use Rattle.plain_elimination.specs.Layout.{rows_of, from_column, lines_from}
use Rattle.plain_elimination.proofs.Sweeps.{after, after_push, after_none, read}
use Rattle.plain_elimination.proofs.Layouts as L

pub count_rows : {X : Type 0} (n w : ℕ) (xs : List X) → length (rows_of n w xs) ≡ n
count_rows zero w xs = refl
count_rows (suc n) w xs = ap suc (count_rows n w (drop w xs))

module _ (B : Enclosures) where
  open B use {Enclosure}

  -- one line more, with the right side in its place
  lines_push : (rows : List (List Enclosure)) (r : List Enclosure) (right : List Enclosure) (d : Enclosure) → length rows < length right
      → lines_of B (rows ++ r ∷ []) (set right (length rows) d) ≡ lines_of B rows right ++ record { left = r; right = d } ∷ []
  lines_push [] r [] d l = absurd (omega arith)
  lines_push [] r (b ∷ right) d l = refl
  lines_push (row ∷ rows) r [] d l = absurd (omega arith)
  lines_push (row ∷ rows) r (b ∷ right) d l = ap (λ lines. record { left = row; right = b } ∷ lines) (lines_push rows r right d (omega arith))

  -- the step of all lines, from what is left after i of n lines
  abbrev pub LinedTo : {R : Type 0} → (R → Enclosure) → Enclosure → List R → Enclosure → List R → List R → List R → List R → ℕ → ℕ → ℕ → Type 0
  LinedTo h pivot first b0 old old_right cells right w c i =
      later_lines B pivot (map h first) b0 (lines_from B c w (map h old) (map h old_right))
      ≡ after (lines_of B (from_column (c + 1) (rows_of i w (map h cells))) (map h right))
      (later_lines B pivot (map h first) b0 (lines_of B (from_column c (rows_of (length right - i) w (drop (i * w) (map h cells)))) (drop i (map h right))))

  pub lined_none : {R : Type 0} (h : R → Enclosure) (pivot : Enclosure) (first : List R) (b0 : Enclosure) (cells right : List R) (w c : ℕ) → LinedTo h pivot first b0 cells right cells right w c 0
  lined_none h pivot first b0 cells right w c =
      let start : 0 * w ≡ 0 = omega (arith, products) in
      let n : length (map h right) ≡ length right - 0 = length-map right h ∙ omega arith in
      rw (n, start) (sym (after_none (later_lines B pivot (map h first) b0 (lines_of B (from_column c (rows_of (length right - 0) w (map h cells))) (map h right)))))

  rectangles_lined : (pivot : Enclosure) (first : List Enclosure) (b0 : Enclosure) (xs zs bs : List Enclosure) (n w c i k : ℕ) (b d : Enclosure) → i < n → n ≡ length bs → w ≡ c + suc k → drop i bs ≡ b ∷ drop (i + 1) bs
      → Some (record { left = take k (drop (i * w + c + 1) zs); right = d }) ≡ later_line B pivot first b0 (take (suc k) (drop (i * w + c) xs)) b
      → take (i * w + c + 1) zs ≡ take (i * w + c + 1) xs → drop (i * w + w) zs ≡ drop (i * w + w) xs
      → after (lines_of B (from_column (c + 1) (rows_of i w xs)) bs) (later_lines B pivot first b0 (lines_of B (from_column c (rows_of (n - i) w (drop (i * w) xs))) (drop i bs)))
      ≡ after (lines_of B (from_column (c + 1) (rows_of (i + 1) w zs)) (set bs i d)) (later_lines B pivot first b0 (lines_of B (from_column c (rows_of (n - (i + 1)) w (drop ((i + 1) * w) zs))) (drop (i + 1) (set bs i d))))
  rectangles_lined pivot first b0 xs zs bs n w c i k b d l en e eb line before behind =
      let m : (i + 1) * w ≡ i * w + w = omega (arith, products) in
      let rest = lines_of B (from_column c (rows_of (n - (i + 1)) w (drop (i * w + w) xs))) (drop (i + 1) bs) in
      let front = from_column (c + 1) (rows_of i w xs) in
      let count : length front ≡ i = length-map (rows_of i w xs) (λ row. drop (c + 1) row) ∙ count_rows i w xs in
      let row = take k (drop (i * w + c + 1) zs) in
      let done : lines_of B (from_column (c + 1) (rows_of (i + 1) w zs)) (set bs i d) ≡ lines_of B front bs ++ record { left = row; right = d } ∷ [] =
      ap₂ (λ rows j. lines_of B rows (set bs j d)) (L.done_row B w c i k xs zs e before) (sym count) ∙ lines_push front row bs d (omega arith) in
      let next : after (lines_of B front bs) (later_lines B pivot first b0 (lines_of B (from_column c (rows_of (n - i) w (drop (i * w) xs))) (drop i bs)))
      ≡ after (lines_of B front bs ++ record { left = row; right = d } ∷ []) (later_lines B pivot first b0 rest) =
      rw (L.next_row B n w c i k xs l e, eb, ← line) (after_push (lines_of B front bs) (record { left = row; right = d }) (later_lines B pivot first b0 rest)) in
      next ∙ ap₂ (λ lines later. after lines (later_lines B pivot first b0 later)) (sym done)
      (ap₂ (λ cells right. lines_of B (from_column c (rows_of (n - (i + 1)) w cells)) right) (sym (ap (λ j. drop j zs) m ∙ behind)) (sym (drop-set-lt (i + 1) bs i d (omega arith))))

  -- one line more
  pub lined_more : {R : Type 0} (h : R → Enclosure) (pivot : Enclosure) (first : List R) (b0 : Enclosure) (old old_right cells new right : List R) (w c i : ℕ) (b d : R) → i < length right → b ≡ get_or right i b → w ≡ c + 1 + length first
      → Some (record { left = take (length first) (drop (i * w + c + 1) (map h new)); right = h d }) ≡ later_line B pivot (map h first) b0 (take (suc (length first)) (drop (i * w + c) (map h cells))) (h b)
      → take (i * w + c + 1) new ≡ take (i * w + c + 1) cells → drop (i * w + c + 1 + length first) new ≡ drop (i * w + c + 1 + length first) cells
      → LinedTo h pivot first b0 old old_right cells right w c i → LinedTo h pivot first b0 old old_right new (set right i d) w c (i + 1)
  lined_more h pivot first b0 old old_right cells new right w c i b d l eb e line before behind k =
      let a : i * w + c + 1 + length first ≡ i * w + w = omega arith in
      let before' : take (i * w + c + 1) (map h new) ≡ take (i * w + c + 1) (map h cells) = take-map h (i * w + c + 1) new ∙ ap (map h) before ∙ sym (take-map h (i * w + c + 1) cells) in
      let behind' : drop (i * w + w) (map h new) ≡ drop (i * w + w) (map h cells) = drop-map h (i * w + w) new ∙ ap (map h) (rw a at behind) ∙ sym (drop-map h (i * w + w) cells) in
      k
      ∙ rw (length-set right i d, map-set h right i d)
      (rectangles_lined pivot (map h first) b0 (map h cells) (map h new) (map h right) (length right) w c i (length first) (h b) (h d) l (sym (length-map right h)) (omega arith) (read h right i b l eb) line before' behind')

  -- a line without a value
  pub lined_err : {R : Type 0} (h : R → Enclosure) (pivot : Enclosure) (first : List R) (b0 : Enclosure) (old old_right cells right : List R) (w c i : ℕ) (b : R) → i < length right → b ≡ get_or right i b → w ≡ c + 1 + length first
      → None ≡ later_line B pivot (map h first) b0 (take (suc (length first)) (drop (i * w + c) (map h cells))) (h b)
      → LinedTo h pivot first b0 old old_right cells right w c i → later_lines B pivot (map h first) b0 (lines_from B c w (map h old) (map h old_right)) ≡ None
  lined_err h pivot first b0 old old_right cells right w c i b l eb e line k =
      k ∙ rw (L.next_row B (length right) w c i (length first) (map h cells) l (omega arith), read h right i b l eb, ← line) refl

  -- all lines
  pub lined_all : {R : Type 0} (h : R → Enclosure) (pivot : Enclosure) (first : List R) (b0 : Enclosure) (old old_right cells right : List R) (w c i : ℕ) → i ≡ length right
      → LinedTo h pivot first b0 old old_right cells right w c i → later_lines B pivot (map h first) b0 (lines_from B c w (map h old) (map h old_right)) ≡ Some (lines_from B (c + 1) w (map h cells) (map h right))
  lined_all h pivot first b0 old old_right cells right w c i e k =
      let none : length right - i ≡ 0 = omega arith in
      let n : i ≡ length (map h right) = e ∙ sym (length-map right h) in
      k ∙ rw none (ap Some (append-nil (lines_of B (from_column (c + 1) (rows_of i w (map h cells))) (map h right)) ∙ ap (λ m. lines_of B (from_column (c + 1) (rows_of m w (map h cells))) (map h right)) n))
