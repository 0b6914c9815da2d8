-- The rows that are left of a square list of rows, step by step.
use Rattle.std.proofs.Common.{◌≡◌, ℕ, suc, ◌+◌, ◌-◌, ◌*◌, ◌<◌, List, [], ◌∷◌, ◌++◌, length, get_or, take, drop, map, Result, Ok, Err, refl, sym, ap, ap₂, ◌∙◌, add-one, arith}
use Rattle.std.proofs.Math.Nat.{add-mul, one-mul, sub-zero}
use Rattle.std.proofs.lemmas.List.{length-drop, drop-map, take-map, drop-take, drop-drop, drop_at, length-map, length-take-le, map-append}
use Rattle.exact_algebra.proofs.Differences.{products}
use Rattle.plain_elimination.specs.Elimination.{Enclosures, bind, or_fail, split_pivot, later_rows, reduce_step, reduce_from, reduce}
use Rattle.plain_elimination.specs.Layout.{rows_of, from_column, rows_left, pivot_row}
use Rattle.plain_elimination.specs.declared.failure.Failure.{Failure}
use Rattle.plain_elimination.specs.declared.failure.Failure.TheVariants.{OutOfRange}
use Rattle.plain_elimination.proofs.Layouts.{part_of_row}
use Rattle.plain_elimination.proofs.Lines.{count_rows}
use Rattle.plain_elimination.proofs.Sweeps.{read}

-- from the first column on nothing is left out
all_columns : {X : Type 0} (rows : List (List X)) → from_column 0 rows ≡ rows
all_columns [] = refl
all_columns (row ∷ rows) = ap (λ rs. row ∷ rs) (all_columns rows)

pub left_whole : {X : Type 0} (size : ℕ) (xs : List X) → rows_left size 0 xs ≡ rows_of size size xs
left_whole size xs =
    let e : 0 * size ≡ 0 = omega (arith, products) in
    rw (e, sub-zero) (all_columns (rows_of size size xs))

-- the pivot's row apart
pub left_next : {X : Type 0} (size k : ℕ) (xs : List X) → k < size
    → rows_left size k xs ≡ pivot_row size k xs ∷ from_column k (rows_of (size - 1 - k) size (drop ((k + 1) * size) xs))
left_next size k xs l =
    let m : size - k ≡ suc (size - 1 - k) = omega arith in
    let e : (k + 1) * size ≡ k * size + size = omega (arith, products) in
    let r : k * size + k + (size - k) ≡ k * size + size = omega arith in
    let row : drop k (take size (drop (k * size) xs)) ≡ drop (k * size + k) (take (k * size + size) xs) =
    part_of_row (k * size) k (size - k) size xs (omega arith) ∙ sym (rw r at (drop-take (k * size + k) (size - k) xs)) in
    rw (m, e, drop-drop size (k * size) xs) (ap (λ first. first ∷ from_column k (rows_of (size - 1 - k) size (drop (k * size + size) xs))) row)

-- the rows that are left behind a pivot's row fill the rest of the cells
pub cells_behind : (c size : ℕ) → c < size → (size - 1 - c) * size + (c + 1) * size ≡ size * size
cells_behind c size l =
    let e : size - 1 - c + (c + 1) ≡ size = omega arith in
    sym (add-mul (size - 1 - c) (c + 1) size) ∙ ap (λ n. n * size) e

-- the pivot's row ends with its own row
pub first_size : {X : Type 0} (c size : ℕ) (cells done first : List X) → c < size → length cells ≡ size * size → done ≡ take ((c + 1) * size) cells → first ≡ drop (c * size + c) done → c + length first ≡ size
first_size c size cells done first l square ed ef =
    let fits = cells_behind c size l in
    let e : (c + 1) * size ≡ c * size + size = omega (arith, products) in
    let ld : length done ≡ c * size + size = ap length ed ∙ length-take-le ((c + 1) * size) cells (omega arith) ∙ e in
    let lf : length first ≡ length done - (c * size + c) = ap length ef ∙ length-drop (c * size + c) done in
    omega arith

-- the rows behind the pivot's row, as a step left them
pub left_behind : {R X : Type 0} (h : R → X) (c size : ℕ) (cells done new : List R) → c < size → length cells ≡ size * size → done ≡ take ((c + 1) * size) cells
    → rows_left size (c + 1) (map h (done ++ new)) ≡ from_column (c + 1) (rows_of (size - 1 - c) size (map h new))
left_behind h c size cells done new l square ed =
    let fits = cells_behind c size l in
    let m : size - (c + 1) ≡ size - 1 - c = omega arith in
    let ld : length (map h done) ≡ (c + 1) * size = length-map done h ∙ ap length ed ∙ length-take-le ((c + 1) * size) cells (omega arith) in
    ap₂ (λ n xs. from_column (c + 1) (rows_of n size xs)) m (ap (drop ((c + 1) * size)) (map-append h done new) ∙ drop_at (map h done) (map h new) ((c + 1) * size) ld)

pub first_is : {R X : Type 0} (h : R → X) (c size : ℕ) (cells done first : List R) → done ≡ take ((c + 1) * size) cells → first ≡ drop (c * size + c) done → map h first ≡ pivot_row size c (map h cells)
first_is h c size cells done first ed ef =
    ap (map h) (ef ∙ ap (drop (c * size + c)) ed) ∙ sym (drop-map h (c * size + c) (take ((c + 1) * size) cells)) ∙ ap (drop (c * size + c)) (sym (take-map h ((c + 1) * size) cells))

pub later_is : {R X : Type 0} (h : R → X) (c size : ℕ) (cells later : List R) → later ≡ drop ((c + 1) * size) cells → map h later ≡ drop ((c + 1) * size) (map h cells)
later_is h c size cells later el = ap (map h) el ∙ sym (drop-map h ((c + 1) * size) cells)

module _ (B : Enclosures) where
  open B use {Enclosure}

  pub column_done : {R : Type 0} (h : R → Enclosure) (result : Result (Unit {0}) Failure) (c size w : ℕ) (cells done later new first : List R) → c < size → length cells ≡ size * size → w ≡ size
      → done ≡ take ((c + 1) * size) cells → later ≡ drop ((c + 1) * size) cells → first ≡ drop (c * size + c) done
      → bind result (λ _. Ok (from_column (c + 1) (rows_of (size - 1 - c) w (map h new))))
      ≡ bind (split_pivot B (c + 1) (map h first)) (λ split. or_fail (OutOfRange (c + 1)) (later_rows B split.0 split.1 (from_column c (rows_of (size - 1 - c) w (map h later)))))
      → bind result (λ _. Ok (rows_left size (c + 1) (map h (done ++ new)))) ≡ reduce_step B (c + 1) (rows_left size c (map h cells))
  column_done h result c size w cells done later new first l square ew ed el ef k =
      ap (λ rows. bind result (λ _. Ok rows)) (left_behind h c size cells done new l square ed)
      ∙ rw (ew, first_is h c size cells done first ed ef, later_is h c size cells later el) at k
      ∙ ap (reduce_step B (c + 1)) (sym (left_next size c (map h cells) l))

  -- the reduction of the whole, from what is left after c steps
  abbrev pub ReducedTo : {R : Type 0} → (R → Enclosure) → List R → List R → ℕ → ℕ → Type 0
  ReducedTo h old cells size c = reduce B (rows_of size size (map h old)) ≡ reduce_from B (c + 1) (size - 1 - c) (rows_left size c (map h cells))

  pub reduced_none : {R : Type 0} (h : R → Enclosure) (cells : List R) (size : ℕ) → ReducedTo h cells cells size 0
  reduced_none h cells size = ap₂ (reduce_from B 1) (ap (λ n. n - 1) (count_rows size size (map h cells)) ∙ sym (sub-zero (size - 1))) (sym (left_whole size (map h cells)))

  -- one step more
  pub reduced_more : {R : Type 0} (h : R → Enclosure) (old cells new : List R) (size c : ℕ) → c < size - 1 → Ok (rows_left size (c + 1) (map h new)) ≡ reduce_step B (c + 1) (rows_left size c (map h cells))
      → ReducedTo h old cells size c → ReducedTo h old new size (c + 1)
  reduced_more h old cells new size c l step k =
      let m : size - 1 - c ≡ suc (size - 1 - (c + 1)) = omega arith in
      k
      ∙ ap (λ n. reduce_from B (c + 1) n (rows_left size c (map h cells))) m
      ∙ ap (λ smaller. bind smaller (λ rows. reduce_from B (suc (c + 1)) (size - 1 - (c + 1)) rows)) (sym step)
      ∙ ap (λ n. reduce_from B n (size - 1 - (c + 1)) (rows_left size (c + 1) (map h new))) (sym (add-one (c + 1)))

  -- a step that fails
  pub reduced_err : {R : Type 0} (h : R → Enclosure) (old cells : List R) (size c : ℕ) (e : Failure) → c < size - 1 → Err e ≡ reduce_step B (c + 1) (rows_left size c (map h cells))
      → ReducedTo h old cells size c → reduce B (rows_of size size (map h old)) ≡ Err e
  reduced_err h old cells size c e l step k =
      let m : size - 1 - c ≡ suc (size - 1 - (c + 1)) = omega arith in
      k
      ∙ ap (λ n. reduce_from B (c + 1) n (rows_left size c (map h cells))) m
      ∙ ap (λ smaller. bind smaller (λ rows. reduce_from B (suc (c + 1)) (size - 1 - (c + 1)) rows)) (sym step)

  -- one row left
  pub reduced_all : {R : Type 0} (h : R → Enclosure) (old cells : List R) (size c i : ℕ) (x : R) → c ≡ size - 1 → 0 < size → length cells ≡ size * size → i ≡ length cells - 1 → x ≡ get_or cells i x
      → ReducedTo h old cells size c → reduce B (rows_of size size (map h old)) ≡ Ok (h x)
  reduced_all h old cells size c i x ec some square ei ex k =
      let last : size ≡ c + 1 = omega arith in
      let one : size - c ≡ 1 = omega arith in
      let none : size - 1 - c ≡ 0 = omega arith in
      let at : i ≡ c * size + c = omega (arith, ei, square, ap (λ n. n * size) last, add-mul c 1 size, one-mul size) in
      let fits : i < length cells = omega (arith, square, ap (λ n. n * size) last, add-mul c 1 size, one-mul size) in
      let entry : take 1 (drop (c * size + c) (map h cells)) ≡ h x ∷ [] = ap (take 1) (ap (λ n. drop n (map h cells)) (sym at) ∙ read h cells i x fits ex) in
      let row : drop c (take size (drop (c * size) (map h cells))) ≡ h x ∷ [] = part_of_row (c * size) c 1 size (map h cells) last ∙ entry in
      let rows : rows_left size c (map h cells) ≡ (h x ∷ []) ∷ [] =
      ap (λ n. from_column c (rows_of n size (drop (c * size) (map h cells)))) one ∙ ap (λ r. r ∷ []) row in
      k ∙ ap₂ (reduce_from B (c + 1)) none rows
