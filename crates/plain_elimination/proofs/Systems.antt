-- The lines that are left of a square system, step by step, and the way back.
use Rattle.std.proofs.Common.{◌≡◌, ℕ, zero, suc, ◌+◌, ◌-◌, ◌*◌, ◌<◌, ◌≤◌, Bool, true, false, List, [], ◌∷◌, ◌++◌, length, get_or, set, take, drop, map, Option, Result, Ok, Err, refl, sym, ap, ap₂, ◌∙◌, add-one, arith}
use Rattle.std.proofs.Math.Nat.{sub-zero}
use Rattle.std.proofs.lemmas.List.{length-map, length-drop, length-take-le, drop-map, take-map, take-take, drop-take, drop_at, drop_all, drop-set, map-set, map-append}
use Rattle.exact_algebra.proofs.Differences.{products}
use Rattle.plain_elimination.specs.Elimination.{Enclosures, Line, and_then, bind, or_fail, split_pivot, later_lines, take_away, solve_step, solve_from, solve, lines_of}
use Rattle.plain_elimination.specs.Layout.{rows_of, from_column, lines_from, lines_left, pivot_row, with_unknown, way_back}
use Rattle.plain_elimination.specs.declared.failure.Failure.{Failure}
use Rattle.plain_elimination.specs.declared.failure.Failure.TheVariants.{OutOfRange}
use Rattle.plain_elimination.proofs.Left.{left_whole, left_next, left_behind, first_is, later_is}
use Rattle.plain_elimination.proofs.Lines.{count_rows}
use Rattle.plain_elimination.proofs.Sweeps.{read}

module _ (B : Enclosures) where
  open B use {Enclosure, holds_zero, div}

  -- the pivot's line apart
  line_next : (size c : ℕ) (cells right : List Enclosure) (b : Enclosure) → c < size → drop c right ≡ b ∷ drop (c + 1) right
      → lines_left B size c cells right ≡ record { left = pivot_row size c cells; right = b } ∷ lines_of B (from_column c (rows_of (size - 1 - c) size (drop ((c + 1) * size) cells))) (drop (c + 1) right)
  line_next size c cells right b l e = ap₂ (lines_of B) (left_next size c cells l) e

  pub lines_done : {R : Type 0} (h : R → Enclosure) (result : Result (Unit {0}) Failure) (c size w : ℕ) (cells done later new first right done_right later_right new_right : List R) (b : R)
      → c < size → length cells ≡ size * size → w ≡ size → length right ≡ size → length new_right ≡ length later_right → b ≡ get_or right c b
      → done ≡ take ((c + 1) * size) cells → later ≡ drop ((c + 1) * size) cells → first ≡ drop (c * size + c) done → done_right ≡ take (c + 1) right → later_right ≡ drop (c + 1) right
      → bind result (λ _. Ok (lines_from B (c + 1) w (map h new) (map h new_right)))
      ≡ bind (split_pivot B (c + 1) (map h first)) (λ split. or_fail (OutOfRange (c + 1)) (later_lines B split.0 split.1 (h b) (lines_from B c w (map h later) (map h later_right))))
      → bind result (λ _. Ok (lines_left B size (c + 1) (map h (done ++ new)) (map h (done_right ++ new_right)))) ≡ solve_step B (c + 1) (lines_left B size c (map h cells) (map h right))
  lines_done h result c size w cells done later new first right done_right later_right new_right b l square ew sides same eb ed el ef edr elr k =
      let in_right : c < length right = omega arith in
      let behind : length later_right ≡ size - 1 - c = ap length elr ∙ length-drop (c + 1) right ∙ omega arith in
      let count : length (map h later_right) ≡ size - 1 - c = length-map later_right h ∙ behind in
      let count_new : length (map h new_right) ≡ size - 1 - c = length-map new_right h ∙ same ∙ behind in
      let ld : length (map h done_right) ≡ c + 1 = length-map done_right h ∙ ap length edr ∙ length-take-le (c + 1) right (omega arith) in
      let new_lines : lines_left B size (c + 1) (map h (done ++ new)) (map h (done_right ++ new_right)) ≡ lines_from B (c + 1) size (map h new) (map h new_right) =
      ap₂ (lines_of B) (left_behind h c size cells done new l square ed ∙ ap (λ n. from_column (c + 1) (rows_of n size (map h new))) (sym count_new))
      (ap (drop (c + 1)) (map-append h done_right new_right) ∙ drop_at (map h done_right) (map h new_right) (c + 1) ld) in
      let old_lines : lines_from B c size (map h later) (map h later_right) ≡ lines_of B (from_column c (rows_of (size - 1 - c) size (drop ((c + 1) * size) (map h cells)))) (drop (c + 1) (map h right)) =
      ap₂ (λ n cells. lines_of B (from_column c (rows_of n size cells)) (map h later_right)) count (later_is h c size cells later el)
      ∙ ap (lines_of B (from_column c (rows_of (size - 1 - c) size (drop ((c + 1) * size) (map h cells))))) (ap (map h) elr ∙ sym (drop-map h (c + 1) right)) in
      ap (λ lines. bind result (λ _. Ok lines)) new_lines
      ∙ rw (ew, first_is h c size cells done first ed ef, old_lines) at k
      ∙ ap (solve_step B (c + 1)) (sym (line_next size c (map h cells) (map h right) (h b) l (read h right c b in_right eb)))

  -- the first step apart
  first_step : (step n : ℕ) (row : List Enclosure) (b : Enclosure) (lines : List (Line B))
      → solve_from B step (suc n) (record { left = row; right = b } ∷ lines)
      ≡ bind (solve_step B step (record { left = row; right = b } ∷ lines)) (λ smaller. bind (solve_from B (suc step) n smaller) (with_unknown B step row (b ∷ [])))
  first_step step n [] b lines = refl
  first_step step n (pivot ∷ first) b lines = go (holds_zero pivot) refl
    where
      go : (t : Bool) → holds_zero pivot ≡ t → solve_from B step (suc n) (record { left = pivot ∷ first; right = b } ∷ lines)
          ≡ bind (solve_step B step (record { left = pivot ∷ first; right = b } ∷ lines)) (λ smaller. bind (solve_from B (suc step) n smaller) (with_unknown B step (pivot ∷ first) (b ∷ [])))
      go true e = rw e refl
      go false e = rw e refl

  pub way_back_err : (n size : ℕ) (cells right : List Enclosure) (e : Failure) → way_back B n size cells right (Err e) ≡ Err e
  way_back_err zero size cells right e = refl
  way_back_err (suc n) size cells right e = way_back_err n size cells right e

  -- it reads the first n rows and their right sides
  pub way_back_kept : (n size : ℕ) (cells new right new_right : List Enclosure) (xs : Result (List Enclosure) Failure) → take (n * size) new ≡ take (n * size) cells → take n new_right ≡ take n right
      → way_back B n size cells right xs ≡ way_back B n size new new_right xs
  way_back_kept zero size cells new right new_right xs k l = refl
  way_back_kept (suc n) size cells new right new_right xs k l =
      let m : (n + 1) * size ≡ suc n * size = omega (arith, products) in
      let fits : n * size ≤ suc n * size = omega (arith, products) in
      let row : pivot_row size n cells ≡ pivot_row size n new = ap (drop (n * size + n)) (ap (λ j. take j cells) m ∙ sym k ∙ ap (λ j. take j new) (sym m)) in
      let k' : take (n * size) new ≡ take (n * size) cells = sym (take-take (n * size) (suc n * size) new fits) ∙ ap (take (n * size)) k ∙ take-take (n * size) (suc n * size) cells fits in
      let l' : take n new_right ≡ take n right = sym (take-take n (suc n) new_right (omega arith)) ∙ ap (take n) l ∙ take-take n (suc n) right (omega arith) in
      way_back_kept n size cells new right new_right _ k' l'
      ∙ ap₂ (λ r side. way_back B n size new new_right (bind xs (λ unknowns. with_unknown B (suc n) r (drop n side) unknowns))) row (sym l)

  -- the system, from what is left after c steps
  abbrev pub SolvedTo : {R : Type 0} → (R → Enclosure) → List R → List R → List R → List R → ℕ → ℕ → Type 0
  SolvedTo h old old_right cells right size c =
      solve B (rows_of size size (map h old)) (map h old_right)
      ≡ way_back B c size (map h cells) (map h right) (solve_from B (c + 1) (size - c) (lines_left B size c (map h cells) (map h right)))

  pub solved_none : {R : Type 0} (h : R → Enclosure) (cells right : List R) (size : ℕ) → SolvedTo h cells right cells right size 0
  solved_none h cells right size =
      ap₂ (solve_from B 1) (count_rows size size (map h cells) ∙ sym (sub-zero size)) (ap (λ rows. lines_of B rows (map h right)) (sym (left_whole size (map h cells))))

  -- the first of the steps that are left
  next_step : (size c : ℕ) (cells right : List Enclosure) (b : Enclosure) → c < size → drop c right ≡ b ∷ drop (c + 1) right
      → solve_from B (c + 1) (size - c) (lines_left B size c cells right)
      ≡ bind (solve_step B (c + 1) (lines_left B size c cells right)) (λ smaller. bind (solve_from B (suc (c + 1)) (size - (c + 1)) smaller) (with_unknown B (c + 1) (pivot_row size c cells) (b ∷ [])))
  next_step size c cells right b l e =
      let m : size - c ≡ suc (size - (c + 1)) = omega arith in
      let line = line_next size c cells right b l e in
      ap₂ (solve_from B (c + 1)) m line
      ∙ first_step (c + 1) (size - (c + 1)) (pivot_row size c cells) b _
      ∙ ap (λ lines. bind (solve_step B (c + 1) lines) (λ smaller. bind (solve_from B (suc (c + 1)) (size - (c + 1)) smaller) (with_unknown B (c + 1) (pivot_row size c cells) (b ∷ [])))) (sym line)

  -- the right side of one row
  side_of : (c : ℕ) (right : List Enclosure) (b : Enclosure) → drop c right ≡ b ∷ drop (c + 1) right → drop c (take (suc c) right) ≡ b ∷ []
  side_of c right b e = ap (λ n. drop c (take n right)) (sym (add-one c)) ∙ drop-take c 1 right ∙ ap (take 1) e

  -- one step more
  rectangles_solved : (size c : ℕ) (cells new right new_right : List Enclosure) (b : Enclosure) → c < size → drop c right ≡ b ∷ drop (c + 1) right
      → Ok (lines_left B size (c + 1) new new_right) ≡ solve_step B (c + 1) (lines_left B size c cells right)
      → take ((c + 1) * size) new ≡ take ((c + 1) * size) cells → take (c + 1) new_right ≡ take (c + 1) right
      → way_back B c size cells right (solve_from B (c + 1) (size - c) (lines_left B size c cells right))
      ≡ way_back B (c + 1) size new new_right (solve_from B (c + 1 + 1) (size - (c + 1)) (lines_left B size (c + 1) new new_right))
  rectangles_solved size c cells new right new_right b l e step rows sides =
      let s : c + 1 ≡ suc c = add-one c in
      let m : (c + 1) * size ≡ suc c * size = ap (λ n. n * size) s in
      let rest = solve_from B (suc (c + 1)) (size - (c + 1)) (lines_left B size (c + 1) new new_right) in
      let first : solve_from B (c + 1) (size - c) (lines_left B size c cells right) ≡ bind rest (with_unknown B (c + 1) (pivot_row size c cells) (b ∷ [])) =
      next_step size c cells right b l e
      ∙ ap (λ smaller. bind smaller (λ lines. bind (solve_from B (suc (c + 1)) (size - (c + 1)) lines) (with_unknown B (c + 1) (pivot_row size c cells) (b ∷ [])))) (sym step) in
      let wrapped : way_back B c size cells right (bind rest (with_unknown B (c + 1) (pivot_row size c cells) (b ∷ []))) ≡ way_back B (suc c) size cells right rest =
      ap₂ (λ n side. way_back B c size cells right (bind rest (λ unknowns. with_unknown B n (pivot_row size c cells) side unknowns))) s (sym (side_of c right b e)) in
      let kept : way_back B (suc c) size cells right rest ≡ way_back B (suc c) size new new_right rest =
      way_back_kept (suc c) size cells new right new_right rest (rw m at rows) (rw s at sides) in
      ap (way_back B c size cells right) first
      ∙ wrapped
      ∙ kept
      ∙ ap₂ (λ n k. way_back B n size new new_right (solve_from B k (size - (c + 1)) (lines_left B size (c + 1) new new_right))) (sym s) (sym (add-one (c + 1)))

  apart : {X : Type 0} (c : ℕ) (xs : List X) → c < length xs → (x : X) × (drop c xs ≡ x ∷ drop (c + 1) xs)
  apart c [] l = absurd (omega arith)
  apart zero (x ∷ xs) l = (x, refl)
  apart (suc c) (x ∷ xs) l =
      let (y, e) = apart c xs (omega arith) in
      let s : suc c + 1 ≡ suc (c + 1) = omega arith in
      (y, rw s e)

  pub solved_more : {R : Type 0} (h : R → Enclosure) (old old_right cells new right new_right : List R) (size c : ℕ) → c < size → length right ≡ size
      → Ok (lines_left B size (c + 1) (map h new) (map h new_right)) ≡ solve_step B (c + 1) (lines_left B size c (map h cells) (map h right))
      → take ((c + 1) * size) new ≡ take ((c + 1) * size) cells → take (c + 1) new_right ≡ take (c + 1) right
      → SolvedTo h old old_right cells right size c → SolvedTo h old old_right new new_right size (c + 1)
  solved_more h old old_right cells new right new_right size c l sides step rows kept k =
      let (b, e) = apart c (map h right) (rw (length-map right h) (omega arith)) in
      let rows' : take ((c + 1) * size) (map h new) ≡ take ((c + 1) * size) (map h cells) = take-map h ((c + 1) * size) new ∙ ap (map h) rows ∙ sym (take-map h ((c + 1) * size) cells) in
      let kept' : take (c + 1) (map h new_right) ≡ take (c + 1) (map h right) = take-map h (c + 1) new_right ∙ ap (map h) kept ∙ sym (take-map h (c + 1) right) in
      k ∙ rectangles_solved size c (map h cells) (map h new) (map h right) (map h new_right) b l e step rows' kept'

  -- a step that fails
  pub solved_err : {R : Type 0} (h : R → Enclosure) (old old_right cells right : List R) (size c : ℕ) (f : Failure) → c < size → length right ≡ size
      → Err f ≡ solve_step B (c + 1) (lines_left B size c (map h cells) (map h right))
      → SolvedTo h old old_right cells right size c → solve B (rows_of size size (map h old)) (map h old_right) ≡ Err f
  solved_err h old old_right cells right size c f l sides step k =
      let (b, e) = apart c (map h right) (rw (length-map right h) (omega arith)) in
      let first : solve_from B (c + 1) (size - c) (lines_left B size c (map h cells) (map h right)) ≡ Err f =
      next_step size c (map h cells) (map h right) b l e
      ∙ ap (λ smaller. bind smaller (λ lines. bind (solve_from B (suc (c + 1)) (size - (c + 1)) lines) (with_unknown B (c + 1) (pivot_row size c (map h cells)) (b ∷ [])))) (sym step) in
      k ∙ ap (way_back B c size (map h cells) (map h right)) first ∙ way_back_err c size (map h cells) (map h right) f

  -- all steps
  pub solved_all : {R : Type 0} (h : R → Enclosure) (old old_right cells right : List R) (size c : ℕ) → c ≡ size
      → SolvedTo h old old_right cells right size c → solve B (rows_of size size (map h old)) (map h old_right) ≡ way_back B size size (map h cells) (map h right) (Ok [])
  solved_all h old old_right cells right size c e k =
      let none : size - c ≡ 0 = omega arith in
      k ∙ ap₂ (λ n m. way_back B n size (map h cells) (map h right) (solve_from B (c + 1) m (lines_left B size c (map h cells) (map h right)))) e none

  -- the unknown of a row, by its entries from the pivot on
  pub unknown_line : {R : Type 0} (h : R → Enclosure) (line first xs : List R) (p b : R) (o : Option Enclosure) → 0 < length line → first ≡ drop 1 line → p ≡ get_or line 0 p
      → o ≡ and_then (take_away B (h b) (map h first) (map h xs)) (λ d. div d (h p))
      → (step : ℕ) → with_unknown B step (map h line) (h b ∷ []) (map h xs) ≡ bind (or_fail (OutOfRange step) o) (λ x. Ok (x ∷ map h xs))
  unknown_line h line first xs p b o some ef ep k step =
      let pivot : map h line ≡ h p ∷ map h first = read h line 0 p some ep ∙ ap (λ rest. h p ∷ rest) (drop-map h 1 line ∙ ap (map h) (sym ef)) in
      ap (λ r. with_unknown B step r (h b ∷ []) (map h xs)) pivot ∙ ap (λ q. bind (or_fail (OutOfRange step) q) (λ x. Ok (x ∷ map h xs))) (sym k)

  -- the same of a row of the system
  pub unknown_is : {R : Type 0} (h : R → Enclosure) (cells done line right xs : List R) (size row : ℕ) (b : R) (o : Option Enclosure) → row < length right
      → done ≡ take ((row + 1) * size) cells → line ≡ drop (row * size + row) done → xs ≡ drop (row + 1) right → b ≡ get_or right row b
      → ((step : ℕ) → with_unknown B step (map h line) (h b ∷ []) (map h xs) ≡ bind (or_fail (OutOfRange step) o) (λ x. Ok (x ∷ map h xs)))
      → with_unknown B (row + 1) (pivot_row size row (map h cells)) (drop row (take (row + 1) (map h right))) (drop (row + 1) (map h right)) ≡ bind (or_fail (OutOfRange (row + 1)) o) (λ x. Ok (x ∷ drop (row + 1) (map h right)))
  unknown_is h cells done line right xs size row b o l ed el ex eb k =
      let side : drop row (take (row + 1) (map h right)) ≡ h b ∷ [] = drop-take row 1 (map h right) ∙ ap (take 1) (read h right row b l eb) in
      let behind : map h xs ≡ drop (row + 1) (map h right) = ap (map h) ex ∙ sym (drop-map h (row + 1) right) in
      ap₂ (λ r s. with_unknown B (row + 1) r s (drop (row + 1) (map h right))) (sym (first_is h row size cells done line ed el)) side
      ∙ rw behind at (k (row + 1))

  -- the right sides with this unknown
  pub unknown_set : {R : Type 0} (h : R → Enclosure) (right : List R) (row : ℕ) (x : R) → row < length right → drop row (map h (set right row x)) ≡ h x ∷ drop (row + 1) (map h right)
  unknown_set h right row x l = ap (drop row) (map-set h right row x) ∙ drop-set (map h right) row (h x) (rw (length-map right h) l)

  -- the way back, from what is left of it
  abbrev pub BackTo : {R : Type 0} → (R → Enclosure) → List R → List R → List R → ℕ → ℕ → Type 0
  BackTo h cells old right size row =
      way_back B size size (map h cells) (map h old) (Ok []) ≡ way_back B row size (map h cells) (map h right) (Ok (drop row (map h right)))

  pub back_none : {R : Type 0} (h : R → Enclosure) (cells right : List R) (size : ℕ) → length right ≡ size → BackTo h cells right right size size
  back_none h cells right size sides =
      let fits : length (map h right) ≤ size = rw (length-map right h) (omega arith) in
      ap (λ xs. way_back B size size (map h cells) (map h right) (Ok xs)) (sym (drop_all size (map h right) fits))

  -- the next row of the way back
  back_row : (size row : ℕ) (cells right : List Enclosure)
      → way_back B (row + 1) size cells right (Ok (drop (row + 1) right)) ≡ way_back B row size cells right (with_unknown B (row + 1) (pivot_row size row cells) (drop row (take (row + 1) right)) (drop (row + 1) right))
  back_row size row cells right =
      ap (λ n. way_back B n size cells right (Ok (drop n right))) (add-one row)
      ∙ ap (λ n. way_back B row size cells right (with_unknown B n (pivot_row size row cells) (drop row (take n right)) (drop n right))) (sym (add-one row))

  -- one row more
  pub back_more : {R : Type 0} (h : R → Enclosure) (cells old right new : List R) (size row next : ℕ) → next ≡ row + 1
      → Ok (drop row (map h new)) ≡ with_unknown B (row + 1) (pivot_row size row (map h cells)) (drop row (take (row + 1) (map h right))) (drop (row + 1) (map h right))
      → take row new ≡ take row right → BackTo h cells old right size next → BackTo h cells old new size row
  back_more h cells old right new size row next e unknown kept k =
      let kept' : take row (map h new) ≡ take row (map h right) = take-map h row new ∙ ap (map h) kept ∙ sym (take-map h row right) in
      k
      ∙ ap (λ n. way_back B n size (map h cells) (map h right) (Ok (drop n (map h right)))) e
      ∙ back_row size row (map h cells) (map h right)
      ∙ ap (way_back B row size (map h cells) (map h right)) (sym unknown)
      ∙ way_back_kept row size (map h cells) (map h cells) (map h right) (map h new) (Ok (drop row (map h new))) refl kept'

  -- a row that fails
  pub back_err : {R : Type 0} (h : R → Enclosure) (cells old right : List R) (size row next : ℕ) (f : Failure) → next ≡ row + 1
      → Err f ≡ with_unknown B (row + 1) (pivot_row size row (map h cells)) (drop row (take (row + 1) (map h right))) (drop (row + 1) (map h right))
      → BackTo h cells old right size next → way_back B size size (map h cells) (map h old) (Ok []) ≡ Err f
  back_err h cells old right size row next f e unknown k =
      k
      ∙ ap (λ n. way_back B n size (map h cells) (map h right) (Ok (drop n (map h right)))) e
      ∙ back_row size row (map h cells) (map h right)
      ∙ ap (way_back B row size (map h cells) (map h right)) (sym unknown)
      ∙ way_back_err row size (map h cells) (map h right) f

  -- all rows
  pub back_all : {R : Type 0} (h : R → Enclosure) (cells old right : List R) (size row : ℕ) → row ≡ 0 → BackTo h cells old right size row → way_back B size size (map h cells) (map h old) (Ok []) ≡ Ok (map h right)
  back_all h cells old right size row e k = k ∙ ap (λ n. way_back B n size (map h cells) (map h right) (Ok (drop n (map h right)))) e
