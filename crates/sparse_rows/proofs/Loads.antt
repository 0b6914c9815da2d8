-- Cells that are copied from a source one by one.
use Rattle.std.proofs.Common.{◌≡◌, ◌≢◌, ◌⊎◌, ⊎_elim, inl, inr, ℕ, zero, suc, ◌+◌, ◌*◌, ◌-◌, ◌<◌, ◌≤◌, List, [], ◌∷◌, ◌++◌, length, get_or, get_or-set_same, get_or-set_other, set, take, map, Some, sym, subst, ap, ap₂, ◌∙◌, arith}
use Rattle.std.specs.Prelude.{slice_get}
use Rattle.std.proofs.lemmas.Option.{slice_get-get_or}
use Rattle.std.proofs.lemmas.Bool.{cases_eq}
use Rattle.std.proofs.lemmas.List.{get_or-map, length-map, map-set, ext_get_or, take_more, take_more_set, take_all}
use Rattle.exact_algebra.proofs.Differences.{products}
use Rattle.complex_interval.specs.Rectangles.{Rectangle}
use Rattle.plain_elimination.specs.Matrix.{nought_rectangle}
use Rattle.sparse_rows.proofs.Outside.{by_lt}
use Rattle.sparse_rows.specs.Listed.{Out, SameAt, CloserTo, IsFill}

pub copied : {R : Type 0} (h : R → Rectangle) (source cells : List R) (at : ℕ) (x : R) → at < length cells → at < length source → x ≡ get_or source at x → SameAt (map h source) (map h (set cells at x)) at
copied h source cells at x lc ls e =
    rw map-set (get_or-set_same (map h cells) at (h x) nought_rectangle (rw (length-map cells h) lc) ∙ ap h e ∙ sym (get_or-map h source at x nought_rectangle ls))

pub copied_closer : {R : Type 0} (h : R → Rectangle) (source cells : List R) (at : ℕ) (x : R) → at < length cells → at < length source → x ≡ get_or source at x → CloserTo (map h source) (map h cells) (map h (set cells at x))
copied_closer h source cells at x lc ls e q same =
    ⊎_elim
    (λ (s : q ≡ at). rw s (copied h source cells at x lc ls e))
    (λ (n : q ≢ at). rw map-set (get_or-set_other (map h cells) at q (h x) nought_rectangle n ∙ same))
    (cases_eq q at)

-- a place by its row and column
pub by_place : (P : ℕ → Type 0) (n size q : ℕ) → q < n * size → ((a b : ℕ) → a < n → b < size → P (a * size + b)) → P q
by_place P zero size q l p = absurd (omega (arith, products))
by_place P (suc n) size q l p =
    let e : suc n * size ≡ n * size + size = omega (arith, products) in
    by_lt q (n * size)
    (λ (m : q < n * size). by_place P n size q m (λ a b la lb. p a b (omega arith) lb))
    (λ (m : n * size ≤ q). let k : n * size + (q - n * size) ≡ q = omega arith in subst P k (p n (q - n * size) (omega arith) (omega arith)))

-- each place is in a row below the size
pub all_loaded : (source new : List Rectangle) (size : ℕ) → length new ≡ size * size → length source ≡ length new → ((a b : ℕ) → a < size → b < size → SameAt source new (a * size + b)) → new ≡ source
all_loaded source new size square sizes same = ext_get_or nought_rectangle new source (sym sizes) (λ q l. by_place (SameAt source new) size size q (omega arith) same)

-- an entry of the square stands in a row that is done, in a column that is done, or is in the part that is left
pub one_more : (source old new : List Rectangle) (size k : ℕ) → k < size → CloserTo source old new
    → ((a b : ℕ) → a < size → b < size → (a < k) ⊎ (b < k) → SameAt source old (a * size + b))
    → ((j : ℕ) → k ≤ j → j < size → SameAt source new (k * size + j)) → ((j : ℕ) → k ≤ j → j < size → SameAt source new (j * size + k))
    → (a b : ℕ) → a < size → b < size → (a < k + 1) ⊎ (b < k + 1) → SameAt source new (a * size + b)
one_more source old new size k l closer done row column a b la lb side =
    by_lt a k
    (λ (m : a < k). closer (a * size + b) (done a b la lb (inl m)))
    (λ (m : k ≤ a).
    by_lt b k
    (λ (n : b < k). closer (a * size + b) (done a b la lb (inr n)))
    (λ (n : k ≤ b).
    ⊎_elim
    (λ (s : a < k + 1). let e : k ≡ a = omega arith in subst (λ r. SameAt source new (r * size + b)) e (row b n lb))
    (λ (s : b < k + 1). let e : k ≡ b = omega arith in subst (λ r. SameAt source new (a * size + r)) e (column a m la))
    side))

-- a step over a gap: the places of a row and of a column from k on, before j, then before j + gap
pub row_more : (gaps : List ℕ) (source old mid new : List Rectangle) (size k j : ℕ) → IsFill gaps size → k < size → k ≤ j → j < size → CloserTo source old mid → CloserTo source mid new
    → ((q : ℕ) → Out gaps q → SameAt source mid q)
    → ((i : ℕ) → k ≤ i → i < j → SameAt source mid (k * size + i)) → SameAt source new (k * size + j)
    → (i : ℕ) → k ≤ i → i < j + get_or gaps (k * size + j) 0 → SameAt source new (k * size + i)
row_more gaps source old mid new size k j fill l lj m before closer outside done here i li li' =
    let within = fill.within k j lj m in
    by_lt i j
    (λ (s : i < j). closer (k * size + i) (done i li s))
    (λ (s : j ≤ i).
    by_lt j i
    (λ (t : j < i). closer (k * size + i) (outside (k * size + i) (fill.between k j i lj t li' (omega arith))))
    (λ (t : i ≤ j). let e : j ≡ i = omega arith in subst (λ r. SameAt source new (k * size + r)) e here))

pub column_more : (gaps : List ℕ) (source old mid new : List Rectangle) (size k j : ℕ) → IsFill gaps size → k < size → k ≤ j → j < size → CloserTo source old mid → CloserTo source mid new
    → ((q : ℕ) → Out gaps q → SameAt source mid q)
    → ((i : ℕ) → k ≤ i → i < j → SameAt source mid (i * size + k)) → SameAt source new (j * size + k)
    → (i : ℕ) → k ≤ i → i < j + get_or gaps (k * size + j) 0 → SameAt source new (i * size + k)
column_more gaps source old mid new size k j fill l lj m before closer outside done here i li li' =
    let within = fill.within k j lj m in
    by_lt i j
    (λ (s : i < j). closer (i * size + k) (done i li s))
    (λ (s : j ≤ i).
    by_lt j i
    (λ (t : j < i). closer (i * size + k) (outside (i * size + k) (fill.across k i l (omega arith) (fill.between k j i lj t li' (omega arith)))))
    (λ (t : i ≤ j). let e : j ≡ i = omega arith in subst (λ r. SameAt source new (r * size + k)) e here))

-- ---- a column, entry by entry
pub front_loaded : {R : Type 0} (h : R → Rectangle) (sides : List R) (right : List Rectangle) (i : ℕ) (x : R) → i < length sides → i < length right → slice_get right i ≡ Some (h x)
    → take i (map h sides) ≡ take i right → take (i + 1) (map h (set sides i x)) ≡ take (i + 1) right
front_loaded h sides right i x ls lr e k =
    let read : Some (get_or right i (h x)) ≡ Some (h x) = sym (slice_get-get_or right i (h x) lr) ∙ e in
    let entry : get_or right i (h x) ≡ h x = cc in
    ap (take (i + 1)) (map-set h sides i x)
    ∙ take_more_set (map h sides) i (h x) (rw (length-map sides h) ls)
    ∙ ap₂ (λ front y. front ++ y ∷ []) k (sym entry)
    ∙ sym (take_more right i (h x) lr)

pub front_stored : {R : Type 0} (h : R → Rectangle) (sides : List R) (right : List Rectangle) (i : ℕ) (x : R) → i < length sides → i < length right → x ≡ get_or sides i x
    → take i right ≡ take i (map h sides) → take (i + 1) (set right i (h x)) ≡ take (i + 1) (map h sides)
front_stored h sides right i x ls lr e k =
    take_more_set right i (h x) lr
    ∙ ap₂ (λ front y. front ++ y ∷ []) k (ap h e ∙ sym (get_or-map h sides i x (h x) ls))
    ∙ sym (take_more (map h sides) i (h x) (rw (length-map sides h) ls))

pub all_fronts : (xs ys : List Rectangle) (i : ℕ) → length xs ≤ i → length ys ≤ i → take i xs ≡ take i ys → xs ≡ ys
all_fronts xs ys i lx ly k = sym (take_all i xs lx) ∙ k ∙ take_all i ys ly
