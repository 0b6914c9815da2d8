-- A matrix that is zero outside a pattern is zero outside its fill.
use Rattle.std.proofs.Common.{◌≡◌, ℕ, ◌+◌, ◌*◌, ◌<◌, ◌≤◌, List, length, get_or, map, Some, refl, sym, subst, ap, ◌∙◌, arith}
use Rattle.std.proofs.lemmas.List.{get_or_default, get_or_past, map-id}
use Rattle.complex_interval.specs.Rectangles.{Rectangle}
use Rattle.plain_elimination.specs.declared.pattern.Spot.{Spot}
use Rattle.plain_elimination.specs.Layout.{rows_of}
use Rattle.plain_elimination.specs.Matrix.{Square, entry, nought_rectangle}
use Rattle.plain_elimination.specs.Pattern.{IsNoPlace, IsZeroOutside}
use Rattle.plain_elimination.proofs.Layouts.{row_fits}
use Rattle.plain_elimination.proofs.Places.{entry_read}
use Rattle.sparse_rows.specs.Bench.{Places, IsBench}
use Rattle.sparse_rows.specs.Listed.{Out, ZeroAt, ZeroOutside}
use Rattle.sparse_rows.proofs.Loads.{by_place}
use Rattle.sparse_rows.proofs.Outside.{by_lt}

entry_zero : (n a b : ℕ) (xs : List Rectangle) → a < n → b < n → length xs ≡ n * n → entry (rows_of n n xs) a b ≡ Some nought_rectangle → ZeroAt xs (a * n + b)
entry_zero n a b xs la lb square e =
    let fits = row_fits a n n la in
    let i = a * n + b in
    let li : i < length xs = omega arith in
    let x = get_or xs i nought_rectangle in
    let read : entry (rows_of n n (map (λ (y : Rectangle). y) xs)) a b ≡ Some x = entry_read (λ y. y) n a b i xs x la lb square refl (omega arith) (get_or_default xs i nought_rectangle x li) in
    let read' : entry (rows_of n n xs) a b ≡ Some x = ap (λ ys. entry (rows_of n n ys) a b) (sym (map-id xs)) ∙ read in
    let same : Some x ≡ Some nought_rectangle = sym read' ∙ e in
    cc

module _ (n : ℕ) (places : List Spot) (pattern : Places) (matrix : Square) (view : record { size = n; places = places } ≡ pattern) (sizes : matrix.size ≡ pattern.size) where
  pub same_size : matrix.size ≡ n
  same_size = sizes ∙ sym (ap (λ (p : Places). p.size) view)

  -- the rows by the size of the bench
  pub rows_same : (xs : List Rectangle) → rows_of matrix.size matrix.size xs ≡ matrix.rows → rows_of n n xs ≡ matrix.rows
  rows_same xs rows = ap (λ m. rows_of m m xs) (sym same_size) ∙ rows

  pub zero_source : (gaps : List ℕ) (cells sides xs : List Rectangle) → IsBench n places gaps cells sides → IsZeroOutside pattern.places matrix → rows_of matrix.size matrix.size xs ≡ matrix.rows → length xs ≡ matrix.size * matrix.size
      → ZeroOutside gaps xs
  zero_source gaps cells sides xs bench zero rows square q out =
      let at_none : (a b : ℕ) → a < n → b < n → IsNoPlace places a b → entry matrix.rows a b ≡ Some nought_rectangle = λ a b la lb none.
      zero a b (subst (λ m. a < m) (sym same_size) la) (subst (λ m. b < m) (sym same_size) lb) (subst (λ ps. IsNoPlace ps a b) (ap (λ (p : Places). p.places) view) none) in
      let square' : length xs ≡ n * n = square ∙ ap (λ m. m * m) same_size in
      let rows' = rows_same xs rows in
      by_lt q (n * n)
      (λ (l : q < n * n).
      by_place (λ p. Out gaps p → ZeroAt xs p) n n q l
      (λ a b la lb o. entry_zero n a b xs la lb square' (ap (λ rs. entry rs a b) rows' ∙ at_none a b la lb (bench.covered a b la lb o)))
      out)
      (λ (l : n * n ≤ q). get_or_past xs q nought_rectangle (omega arith))
