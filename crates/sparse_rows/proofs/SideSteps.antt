-- The right sides of a step, entry by entry, and that a step of a system is one of its rows and one of its right sides.
use Rattle.std.proofs.Common.{◌≡◌, ℕ, zero, suc, ◌+◌, ◌-◌, ◌*◌, ◌<◌, ◌≤◌, Bool, true, false, List, [], ◌∷◌, ◌++◌, length, get_or, set, take, drop, map, Option, Some, None, Ok, Err, refl, sym, subst, ap, ap₂, ◌∙◌, append-nil, arith}
use Rattle.std.proofs.lemmas.List.{drop_more, drop_all, take_all, take_more, take_more_set, drop-set-lt, get_or-take, get_or-drop, length-map, length-drop, length-take-le, map-set}
use Rattle.std.specs.Prelude.{if◌then◌else◌}
use Rattle.exact_algebra.proofs.Differences.{products}
use Rattle.plain_elimination.specs.Elimination.{Enclosures, Line, and_then, bind, or_fail, later_row, later_rows, sweep, later_line, later_lines, lines_of, reduce_step, solve_step}
use Rattle.plain_elimination.specs.Layout.{rows_of, from_column, rows_left, lines_left, pivot_row}
use Rattle.plain_elimination.specs.declared.failure.Failure.{Failure}
use Rattle.plain_elimination.specs.declared.failure.Failure.TheVariants.{OutOfRange}
use Rattle.plain_elimination.proofs.Left.{left_next, cells_behind, first_size}
use Rattle.plain_elimination.proofs.Sweeps.{after, after_push, after_none, read}
use Rattle.sparse_rows.specs.Sides.{column_of, later_side, later_sides}
use Rattle.sparse_rows.proofs.Columns.{head_at}
use Rattle.sparse_rows.proofs.Skipping.{ZeroLaws}

-- ---- entries of a column
pub column_size : {X : Type 0} (z : X) (n w c : ℕ) (xs : List X) → length (column_of z n w c xs) ≡ n
column_size z zero w c xs = refl
column_size z (suc n) w c xs = ap suc (column_size z n w c (drop w xs))

pub column_at : {X : Type 0} (z : X) (n w c r : ℕ) (xs : List X) → r < n → get_or (column_of z n w c xs) r z ≡ get_or xs (r * w + c) z
column_at z zero w c r xs l = absurd (omega arith)
column_at z (suc n) w c zero xs l = let e : c ≡ zero * w + c = omega (arith, products) in ap (λ i. get_or xs i z) e
column_at z (suc n) w c (suc r) xs l =
    let e : w + (r * w + c) ≡ suc r * w + c = omega (arith, products) in
    column_at z n w c r (drop w xs) (omega arith) ∙ get_or-drop w xs (r * w + c) z ∙ ap (λ i. get_or xs i z) e

pub column_same : {X : Type 0} (z : X) (n w c : ℕ) (xs ys : List X) → ((r : ℕ) → r < n → get_or xs (r * w + c) z ≡ get_or ys (r * w + c) z) → column_of z n w c xs ≡ column_of z n w c ys
column_same z zero w c xs ys same = refl
column_same z (suc n) w c xs ys same =
    let e : zero * w + c ≡ c = omega (arith, products) in
    let first : get_or xs c z ≡ get_or ys c z = subst (λ i. get_or xs i z ≡ get_or ys i z) e (same zero (omega arith)) in
    let rest : (r : ℕ) → r < n → get_or (drop w xs) (r * w + c) z ≡ get_or (drop w ys) (r * w + c) z =
    λ r l. let m : suc r * w + c ≡ w + (r * w + c) = omega (arith, products) in
    get_or-drop w xs (r * w + c) z ∙ subst (λ i. get_or xs i z ≡ get_or ys i z) m (same (suc r) (omega arith)) ∙ sym (get_or-drop w ys (r * w + c) z)
    in
    ap₂ (λ x rest. x ∷ rest) first (column_same z n w c (drop w xs) (drop w ys) rest)

module _ (B : Enclosures) where
  open B use {Enclosure, holds_zero, is_zero, sub, mul, div}

  -- ---- the right sides of a step, from what is left after r of them
  abbrev pub SidedTo : {R : Type 0} → (R → Enclosure) → Enclosure → Enclosure → List Enclosure → List R → List R → ℕ → Type 0
  SidedTo h pivot b0 entries old right r = later_sides B pivot b0 entries (map h old) ≡ after (take r (map h right)) (later_sides B pivot b0 (drop r entries) (drop r (map h right)))

  pub sided_none : {R : Type 0} (h : R → Enclosure) (pivot b0 : Enclosure) (entries : List Enclosure) (right : List R) → SidedTo h pivot b0 entries right right 0
  sided_none h pivot b0 entries right = sym (after_none (later_sides B pivot b0 entries (map h right)))

  -- one more
  pub sided_more : {R : Type 0} (h : R → Enclosure) (z pivot b0 a : Enclosure) (entries : List Enclosure) (old right : List R) (r : ℕ) (b d : R) → r < length entries → r < length right → get_or entries r z ≡ a → b ≡ get_or right r b
      → Some (h d) ≡ later_side B pivot b0 a (h b) → SidedTo h pivot b0 entries old right r → SidedTo h pivot b0 entries old (set right r d) (r + 1)
  sided_more h z pivot b0 a entries old right r b d le lr ea eb side k =
      let e : drop r entries ≡ a ∷ drop (r + 1) entries = drop_more entries r z le ∙ ap (λ x. x ∷ drop (r + 1) entries) ea in
      k
      ∙ rw (e, read h right r b lr eb, map-set h right r d, take_more_set (map h right) r (h d) (rw (length-map right h) lr), drop-set-lt (r + 1) (map h right) r (h d) (omega arith), ← side)
      (after_push (take r (map h right)) (h d) (later_sides B pivot b0 (drop (r + 1) entries) (drop (r + 1) (map h right))))

  -- one without a value
  pub sided_err : {R : Type 0} (h : R → Enclosure) (z pivot b0 a : Enclosure) (entries : List Enclosure) (old right : List R) (r : ℕ) (b : R) → r < length entries → r < length right → get_or entries r z ≡ a → b ≡ get_or right r b
      → None ≡ later_side B pivot b0 a (h b) → SidedTo h pivot b0 entries old right r → later_sides B pivot b0 entries (map h old) ≡ None
  sided_err h z pivot b0 a entries old right r b le lr ea eb side k =
      let e : drop r entries ≡ a ∷ drop (r + 1) entries = drop_more entries r z le ∙ ap (λ x. x ∷ drop (r + 1) entries) ea in
      k ∙ rw (e, read h right r b lr eb, ← side) refl

  -- where the entry is zero the right side stays
  skip_side : {R : Type 0} (h : R → Enclosure) (z : Enclosure) (laws : ZeroLaws B h z) (pivot b0 : Enclosure) (entries : List Enclosure) (old right : List R) (r : ℕ) → r < length entries → r < length right → get_or entries r z ≡ z
      → SidedTo h pivot b0 entries old right r → SidedTo h pivot b0 entries old right (r + 1)
  skip_side h z laws pivot b0 entries old right r le lr zero_there k =
      let xs = map h right in
      let b = get_or xs r z in
      let e : drop r entries ≡ z ∷ drop (r + 1) entries = drop_more entries r z le ∙ ap (λ x. x ∷ drop (r + 1) entries) zero_there in
      let er : drop r xs ≡ b ∷ drop (r + 1) xs = drop_more xs r z (rw (length-map right h) lr) in
      let et : take (r + 1) xs ≡ take r xs ++ b ∷ [] = take_more xs r z (rw (length-map right h) lr) in
      k ∙ rw (e, er, et, laws.alone) (after_push (take r xs) b (later_sides B pivot b0 (drop (r + 1) entries) (drop (r + 1) xs)))

  pub skip_sides : {R : Type 0} (h : R → Enclosure) (z : Enclosure) (laws : ZeroLaws B h z) (pivot b0 : Enclosure) (entries : List Enclosure) (old right : List R) (d r m : ℕ) → r + d ≡ m → m ≤ length entries → m ≤ length right
      → ((q : ℕ) → r ≤ q → q < m → get_or entries q z ≡ z) → SidedTo h pivot b0 entries old right r → SidedTo h pivot b0 entries old right m
  skip_sides h z laws pivot b0 entries old right zero r m e le lr zeros k = subst (λ q. SidedTo h pivot b0 entries old right q) (omega arith) k
  skip_sides h z laws pivot b0 entries old right (suc d) r m e le lr zeros k =
      skip_sides h z laws pivot b0 entries old right d (r + 1) m (omega arith) le lr (λ q u v. zeros q (omega arith) v)
      (skip_side h z laws pivot b0 entries old right r (omega arith) (omega arith) (zeros r (omega arith) (omega arith)) k)

  pub sided_all : {R : Type 0} (h : R → Enclosure) (pivot b0 : Enclosure) (entries : List Enclosure) (old right : List R) (r : ℕ) → length entries ≤ r → length right ≤ r
      → SidedTo h pivot b0 entries old right r → later_sides B pivot b0 entries (map h old) ≡ Some (map h right)
  sided_all h pivot b0 entries old right r le lr k =
      k ∙ rw (drop_all r entries le, take_all r (map h right) (rw (length-map right h) lr)) (ap Some (append-nil (map h right)))

  -- ---- rows and right sides of a step
  abbrev beside : List Enclosure → Enclosure → Line B
  beside row b = record { left = row; right = b }

  after_factor : (o : Option (List Enclosure)) (q : Option Enclosure) (less : Enclosure → Option Enclosure)
      → and_then o (λ swept. and_then q (λ t. and_then (less t) (λ d. Some (beside swept d)))) ≡ and_then o (λ s. and_then (and_then q less) (λ d. Some (beside s d)))
  after_factor None q less = refl
  after_factor (Some x) None less = refl
  after_factor (Some x) (Some t) less = refl

  by_test : (zero_there : Bool) (b : Enclosure) (row : List Enclosure) (q : Option Enclosure) (swept : Enclosure → Option (List Enclosure)) (times less : Enclosure → Option Enclosure)
      → (if zero_there then Some (beside row b) else and_then q (λ f. and_then (swept f) (λ s. and_then (times f) (λ t. and_then (less t) (λ d. Some (beside s d))))))
      ≡ and_then (if zero_there then Some row else and_then q swept) (λ s. and_then (if zero_there then Some b else and_then q (λ f. and_then (times f) less)) (λ d. Some (beside s d)))
  by_test true b row q swept times less = refl
  by_test false b row None swept times less = refl
  by_test false b row (Some f) swept times less = after_factor (swept f) (times f) less

  line_apart : (pivot b0 a b : Enclosure) (first row : List Enclosure)
      → later_line B pivot first b0 (a ∷ row) b ≡ and_then (later_row B pivot first (a ∷ row)) (λ s. and_then (later_side B pivot b0 a b) (λ d. Some (beside s d)))
  line_apart pivot b0 a b first row = by_test (is_zero a) b row (div a pivot) (λ f. sweep B f first row) (λ f. mul f b0) (λ t. sub b t)

  swap : (p : Option (List Enclosure)) (q : Option Enclosure) (ps : Option (List (List Enclosure))) (qs : Option (List Enclosure))
      → and_then (and_then p (λ s. and_then q (λ d. Some (beside s d)))) (λ l. and_then (and_then ps (λ ss. and_then qs (λ ds. Some (lines_of B ss ds)))) (λ ls. Some (l ∷ ls)))
      ≡ and_then (and_then p (λ s. and_then ps (λ ss. Some (s ∷ ss)))) (λ rs. and_then (and_then q (λ d. and_then qs (λ ds. Some (d ∷ ds)))) (λ bs. Some (lines_of B rs bs)))
  swap None q ps qs = refl
  swap (Some s) None None qs = refl
  swap (Some s) None (Some ss) qs = refl
  swap (Some s) (Some d) None qs = refl
  swap (Some s) (Some d) (Some ss) None = refl
  swap (Some s) (Some d) (Some ss) (Some ds) = refl

  joined : (z pivot b0 : Enclosure) (first : List Enclosure) (n w c : ℕ) (xs right : List Enclosure) → c < w → n * w ≤ length xs → length right ≡ n
      → later_lines B pivot first b0 (lines_of B (from_column c (rows_of n w xs)) right)
      ≡ and_then (later_rows B pivot first (from_column c (rows_of n w xs))) (λ rs. and_then (later_sides B pivot b0 (column_of z n w c xs) right) (λ bs. Some (lines_of B rs bs)))
  joined z pivot b0 first zero w c xs right l fits e = refl
  joined z pivot b0 first (suc n) w c xs [] l fits e = absurd (omega arith)
  joined z pivot b0 first (suc n) w c xs (b ∷ right) l fits e =
      let m : suc n * w ≡ w + n * w = omega (arith, products) in
      let width : length (take w xs) ≡ w = length-take-le w xs (omega arith) in
      let a = get_or xs c z in
      let row = drop (c + 1) (take w xs) in
      let apart : drop c (take w xs) ≡ a ∷ row = drop_more (take w xs) c z (omega arith) ∙ ap (λ x. x ∷ row) (get_or-take w xs c z l) in
      rw (apart, line_apart pivot b0 a b first row, joined z pivot b0 first n w c (drop w xs) right l (omega (arith, length-drop w xs)) (omega arith))
      (swap (later_row B pivot first (a ∷ row)) (later_side B pivot b0 a b) (later_rows B pivot first (from_column c (rows_of n w (drop w xs)))) (later_sides B pivot b0 (column_of z n w c (drop w xs)) right))

  or_fail-and_then : {X Y : Type 0} (e : Failure) (o : Option X) (f : X → Option Y) → or_fail e (and_then o f) ≡ bind (or_fail e o) (λ x. or_fail e (f x))
  or_fail-and_then e None f = refl
  or_fail-and_then e (Some x) f = refl

  step_of : (z p b0 : Enclosure) (first : List Enclosure) (step n w c : ℕ) (xs right : List Enclosure) → c < w → n * w ≤ length xs → length right ≡ n
      → solve_step B step (record { left = p ∷ first; right = b0 } ∷ lines_of B (from_column c (rows_of n w xs)) right)
      ≡ bind (reduce_step B step ((p ∷ first) ∷ from_column c (rows_of n w xs))) (λ rs. or_fail (OutOfRange step) (and_then (later_sides B p b0 (column_of z n w c xs) right) (λ bs. Some (lines_of B rs bs))))
  step_of z p b0 first step n w c xs right l fits sides = go (holds_zero p) refl
    where
      go : (t : Bool) → holds_zero p ≡ t
          → solve_step B step (record { left = p ∷ first; right = b0 } ∷ lines_of B (from_column c (rows_of n w xs)) right)
          ≡ bind (reduce_step B step ((p ∷ first) ∷ from_column c (rows_of n w xs))) (λ rs. or_fail (OutOfRange step) (and_then (later_sides B p b0 (column_of z n w c xs) right) (λ bs. Some (lines_of B rs bs))))
      go true e = rw e refl
      go false e =
          rw e
          (ap (or_fail (OutOfRange step)) (joined z p b0 first n w c xs right l fits sides)
          ∙ or_fail-and_then (OutOfRange step) (later_rows B p first (from_column c (rows_of n w xs))) (λ rs. and_then (later_sides B p b0 (column_of z n w c xs) right) (λ bs. Some (lines_of B rs bs))))

  -- a step of a system, by the step of its rows and the step of its right sides
  step_apart : (z : Enclosure) (size c : ℕ) (cells right : List Enclosure) → c < size → length cells ≡ size * size → length right ≡ size
      → solve_step B (c + 1) (lines_left B size c cells right)
      ≡ bind (reduce_step B (c + 1) (rows_left size c cells)) (λ rs.
      or_fail (OutOfRange (c + 1)) (and_then (later_sides B (get_or cells (c * size + c) z) (get_or right c z) (column_of z (size - 1 - c) size c (drop ((c + 1) * size) cells)) (drop (c + 1) right)) (λ bs. Some (lines_of B rs bs))))
  step_apart z size c cells right l square sides =
      let fits = cells_behind c size l in
      let xs = drop ((c + 1) * size) cells in
      let row = pivot_row size c cells in
      let p = get_or cells (c * size + c) z in
      let b0 = get_or right c z in
      let whole : c + length row ≡ size = first_size c size cells (take ((c + 1) * size) cells) row l square refl refl in
      let apart : row ≡ p ∷ drop 1 row = drop_more row 0 z (omega arith) ∙ ap (λ x. x ∷ drop 1 row) (head_at cells size c z l) in
      let rows : rows_left size c cells ≡ (p ∷ drop 1 row) ∷ from_column c (rows_of (size - 1 - c) size xs) = left_next size c cells l ∙ ap (λ r. r ∷ from_column c (rows_of (size - 1 - c) size xs)) apart in
      ap₂ (λ rs bs. solve_step B (c + 1) (lines_of B rs bs)) rows (drop_more right c z (omega arith))
      ∙ step_of z p b0 (drop 1 row) (c + 1) (size - 1 - c) size c xs (drop (c + 1) right) l (omega (arith, length-drop ((c + 1) * size) cells)) (length-drop (c + 1) right ∙ omega arith)
      ∙ ap (λ rs. bind (reduce_step B (c + 1) rs) (λ ss. or_fail (OutOfRange (c + 1)) (and_then (later_sides B p b0 (column_of z (size - 1 - c) size c xs) (drop (c + 1) right)) (λ bs. Some (lines_of B ss bs))))) (sym rows)

  pub step_err : (z : Enclosure) (size c : ℕ) (cells right : List Enclosure) (f : Failure) → c < size → length cells ≡ size * size → length right ≡ size
      → Err f ≡ reduce_step B (c + 1) (rows_left size c cells) → Err f ≡ solve_step B (c + 1) (lines_left B size c cells right)
  step_err z size c cells right f l square sides e = rw (step_apart z size c cells right l square sides, ← e) refl

  -- where the rows are done first, and the right sides are done by the new rows
  pub step_done : (z : Enclosure) (size c : ℕ) (cells new right : List Enclosure) (o : Option (List Enclosure)) → c < size → length cells ≡ size * size → length right ≡ size
      → Ok (rows_left size (c + 1) new) ≡ reduce_step B (c + 1) (rows_left size c cells) → take ((c + 1) * size) new ≡ take ((c + 1) * size) cells
      → column_of z (size - 1 - c) size c (drop ((c + 1) * size) new) ≡ column_of z (size - 1 - c) size c (drop ((c + 1) * size) cells)
      → o ≡ later_sides B (get_or new (c * size + c) z) (get_or right c z) (column_of z (size - 1 - c) size c (drop ((c + 1) * size) new)) (drop (c + 1) right)
      → or_fail (OutOfRange (c + 1)) (and_then o (λ bs. Some (lines_of B (rows_left size (c + 1) new) bs))) ≡ solve_step B (c + 1) (lines_left B size c cells right)
  step_done z size c cells new right o l square sides rows kept column e =
      let b : (c + 1) * size ≡ c * size + size = omega (arith, products) in
      let front : c * size + c < (c + 1) * size = omega arith in
      let pivot : get_or new (c * size + c) z ≡ get_or cells (c * size + c) z =
      sym (get_or-take ((c + 1) * size) new (c * size + c) z front) ∙ ap (λ xs. get_or xs (c * size + c) z) kept ∙ get_or-take ((c + 1) * size) cells (c * size + c) z front in
      rw (step_apart z size c cells right l square sides, ← rows, e, pivot, column) refl

  pub sides_same : (z p p' b b' : Enclosure) (n n' w w' : ℕ) (cells cells' right right' : List Enclosure) (c : ℕ) → p ≡ p' → b ≡ b' → n ≡ n' → w ≡ w' → cells ≡ cells' → right ≡ right'
      → later_sides B p b (column_of z n w c cells) right ≡ later_sides B p' b' (column_of z n' w' c cells') right'
  sides_same z p p' b b' n n' w w' cells cells' right right' c ep eb en ew ec er = rw (ep, eb, en, ew, ec, er) refl
