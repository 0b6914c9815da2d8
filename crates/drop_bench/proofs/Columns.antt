-- Columns of rows, and rows that are written by columns.
use Rattle.std.proofs.Common.{◌≡◌, ℕ, zero, suc, ◌+◌, ◌<◌, ◌≤◌, List, [], ◌∷◌, length, get_or, drop, map, slice_get, Option, Some, None, refl, sym, ap, ap₂, ◌∙◌, arith}
use Rattle.std.specs.List.{All}
use Rattle.std.specs.Option.{option_map}
use Rattle.std.proofs.lemmas.List.Elements.{All-nil, All-cons, All-head, All-tail}
use Rattle.std.proofs.lemmas.List.{length-map, get_or-map}
use Rattle.std.proofs.lemmas.Option.{slice_get-get_or, slice_get_past}
use Rattle.complex_interval.specs.Rectangles.{Rectangle}
use Rattle.plain_elimination.specs.Matrix.{nought_rectangle}
use Rattle.middle_inverse.specs.Lists.{and_then, each}
use Rattle.certified_inverse.proofs.Placed.{element}
use Rattle.certified_inverse.proofs.Rows.{and_then-some}
use Rattle.drop_bench.specs.Columns.{column_of, columns_from, columns}

-- rows of this width reach this column
pub reaches : {R : Type 0} (size : R → ℕ) (w i : ℕ) (rows : List R) → i < w → All (λ r. size r ≡ w) rows → All (λ r. i < size r) rows
reaches size w i [] l all = All-nil (λ r. i < size r)
reaches size w i (r ∷ rows) l all =
    let e = All-head (λ r. size r ≡ w) r rows all in
    All-cons (λ r. i < size r) r rows (omega (arith, e)) (reaches size w i rows l (All-tail (λ r. size r ≡ w) r rows all))

-- ---- a column by its number
count-from : (j n : ℕ) (rows : List (List Rectangle)) → length (columns_from j n rows) ≡ n
count-from j zero rows = refl
count-from j (suc n) rows = ap suc (count-from (suc j) n rows)

from-at : (j n i : ℕ) (rows : List (List Rectangle)) → i < n → get_or (columns_from j n rows) i [] ≡ column_of (j + i) rows
from-at j zero i rows l = absurd (omega arith)
from-at j (suc n) zero rows l = let e : j ≡ j + 0 = omega arith in ap (λ k. column_of k rows) e
from-at j (suc n) (suc i) rows l = let e : suc j + i ≡ j + suc i = omega arith in from-at (suc j) n i rows (omega arith) ∙ ap (λ k. column_of k rows) e

pub columns_count : (n : ℕ) (rows : List (List Rectangle)) → length (columns n rows) ≡ n
unfolding columns
columns_count n rows = count-from 0 n rows

pub column_at : (n i : ℕ) (rows : List (List Rectangle)) → i < n → get_or (columns n rows) i [] ≡ column_of i rows
unfolding columns
column_at n i rows l = let e : 0 + i ≡ i = omega arith in from-at 0 n i rows l ∙ ap (λ k. column_of k rows) e

pub column_next : (n i : ℕ) (rows : List (List Rectangle)) → i < n → drop i (columns n rows) ≡ column_of i rows ∷ drop (i + 1) (columns n rows)
column_next n i rows l = let count = columns_count n rows in element (columns n rows) i [] (column_of i rows) (omega (arith, count)) (sym (column_at n i rows l))

-- ---- an entry of a column, where rows are read by h
module _ {R X : Type 0} (rectangle : X → Rectangle) (items : R → List X) (rows : List R) (j : ℕ) where
  pub cell_at : (row : R) (x : X) → j < length (items row) → x ≡ get_or (items row) j x → get_or (map rectangle (items row)) j nought_rectangle ≡ rectangle x
  cell_at row x l e = get_or-map rectangle (items row) j x nought_rectangle l ∙ ap rectangle (sym e)

  pub entry_of : (i : ℕ) (row : R) (x : X) → i < length rows → row ≡ get_or rows i row → j < length (items row) → x ≡ get_or (items row) j x → slice_get (column_of j (map (λ r. map rectangle (items r)) rows)) i ≡ Some (rectangle x)
  unfolding column_of
  entry_of i row x l er lj ex =
      let h : R → List Rectangle = λ r. map rectangle (items r) in
      let cell : List Rectangle → Rectangle = λ c. get_or c j nought_rectangle in
      let all = map h rows in
      let n : i < length all = rw (length-map rows h) l in
      slice_get-get_or (map cell all) i (rectangle x) (rw (length-map all cell) n)
      ∙ ap Some (get_or-map cell all i (h row) (rectangle x) n ∙ ap cell (get_or-map h rows i row (h row) l ∙ ap h (sym er)) ∙ cell_at row x lj ex)

  pub entry_beyond : (i : ℕ) → length rows ≤ i → slice_get (column_of j (map (λ r. map rectangle (items r)) rows)) i ≡ None
  unfolding column_of
  entry_beyond i l =
      let h : R → List Rectangle = λ r. map rectangle (items r) in
      let cell : List Rectangle → Rectangle = λ c. get_or c j nought_rectangle in
      slice_get_past (map cell (map h rows)) i (rw (length-map (map h rows) cell, length-map rows h) l)

pub column_each : (j : ℕ) (rows : List (List Rectangle)) → each (λ row. Some (get_or row j nought_rectangle)) rows ≡ Some (column_of j rows)
unfolding column_of
column_each j [] = refl
column_each j (row ∷ rows) = rw (column_each j rows) refl

-- ---- the first of each row, and the rest
abbrev joined : List Rectangle → List (List Rectangle) → List (List Rectangle)
joined [] rows = []
joined (x ∷ xs) [] = []
joined (x ∷ xs) (row ∷ rows) = (x ∷ row) ∷ joined xs rows

later_column : (j : ℕ) (xs : List Rectangle) (rows : List (List Rectangle)) → length xs ≡ length rows → column_of (suc j) (joined xs rows) ≡ column_of j rows
unfolding column_of
later_column j [] [] e = refl
later_column j [] (row ∷ rows) e = absurd (omega (arith, e))
later_column j (x ∷ xs) [] e = absurd (omega (arith, e))
later_column j (x ∷ xs) (row ∷ rows) e = ap (λ c. get_or row j nought_rectangle ∷ c) (later_column j xs rows (omega (arith, e)))

first_column : (xs : List Rectangle) (rows : List (List Rectangle)) → length xs ≡ length rows → column_of 0 (joined xs rows) ≡ xs
unfolding column_of
first_column [] [] e = refl
first_column [] (row ∷ rows) e = refl
first_column (x ∷ xs) [] e = absurd (omega (arith, e))
first_column (x ∷ xs) (row ∷ rows) e = ap (λ c. x ∷ c) (first_column xs rows (omega (arith, e)))

later_columns : (j n : ℕ) (xs : List Rectangle) (rows : List (List Rectangle)) → length xs ≡ length rows → columns_from (suc j) n (joined xs rows) ≡ columns_from j n rows
later_columns j zero xs rows e = refl
later_columns j (suc n) xs rows e = ap₂ (λ c cs. c ∷ cs) (later_column j xs rows e) (later_columns (suc j) n xs rows e)

joined_columns : (n : ℕ) (xs : List Rectangle) (rows : List (List Rectangle)) → length xs ≡ length rows → columns_from 0 (suc n) (joined xs rows) ≡ xs ∷ columns_from 0 n rows
joined_columns n xs rows e = ap₂ (λ c cs. c ∷ cs) (first_column xs rows e) (later_columns 0 n xs rows e)

-- ---- f of each and each, by rows and by columns
each_count : {X Y : Type 0} (f : X → Option Y) (xs : List X) (ys : List Y) → each f xs ≡ Some ys → length ys ≡ length xs
each_count f [] ys e = let k : [] ≡ ys = cc in ap length (sym k)
each_count f (x ∷ xs) ys e =
    let (z, e1, e) = and_then-some (f x) (λ z. and_then (each f xs) (λ zs. Some (z ∷ zs))) ys e in
    let (zs, e2, e) = and_then-some (each f xs) (λ zs. Some (z ∷ zs)) ys e in
    let k : z ∷ zs ≡ ys = cc in
    ap length (sym k) ∙ ap suc (each_count f xs zs e2)

module _ {D R : Type 0} (f : D → R → Option Rectangle) where
  of_none : (cs : List R) → option_map (columns_from 0 0) (each (λ c. each (λ d. f d c) []) cs) ≡ Some []
  of_none [] = refl
  of_none (c ∷ cs) = go (each (λ c. each (λ d. f d c) []) cs) (of_none cs)
    where
      go : (o : Option (List (List Rectangle))) → option_map (columns_from 0 0) o ≡ Some [] → option_map (columns_from 0 0) (and_then o (λ rows. Some ([] ∷ rows))) ≡ Some []
      go None e = e
      go (Some rows) e = refl

  first_apart : (d : D) (ds : List D) (cs : List R) → each (λ c. each (λ d. f d c) (d ∷ ds)) cs ≡ and_then (each (f d) cs) (λ xs. and_then (each (λ c. each (λ d. f d c) ds) cs) (λ rows. Some (joined xs rows)))
  first_apart d ds [] = refl
  first_apart d ds (c ∷ cs) = rw (first_apart d ds cs) (go (f d c) (each (λ d. f d c) ds) (each (f d) cs) (each (λ c. each (λ d. f d c) ds) cs))
    where
      go : (o : Option Rectangle) (p q : Option (List Rectangle)) (r : Option (List (List Rectangle)))
          → and_then (and_then o (λ x. and_then p (λ row. Some (x ∷ row)))) (λ row. and_then (and_then q (λ xs. and_then r (λ rows. Some (joined xs rows)))) (λ rows. Some (row ∷ rows)))
          ≡ and_then (and_then o (λ x. and_then q (λ xs. Some (x ∷ xs)))) (λ xs. and_then (and_then p (λ row. and_then r (λ rows. Some (row ∷ rows)))) (λ rows. Some (joined xs rows)))
      go None p q r = refl
      go (Some x) None None r = refl
      go (Some x) None (Some xs) r = refl
      go (Some x) (Some row) None r = refl
      go (Some x) (Some row) (Some xs) None = refl
      go (Some x) (Some row) (Some xs) (Some rows) = refl

  by_columns : (ds : List D) (cs : List R) → each (λ d. each (f d) cs) ds ≡ option_map (columns_from 0 (length ds)) (each (λ c. each (λ d. f d c) ds) cs)
  by_columns [] cs = sym (of_none cs)
  by_columns (d ∷ ds) cs =
      rw (by_columns ds cs, first_apart d ds cs)
      (go (each (f d) cs) (each (λ c. each (λ d. f d c) ds) cs) (λ xs e. each_count (f d) cs xs e) (λ rows e. each_count (λ c. each (λ d. f d c) ds) cs rows e))
    where
      go : (o : Option (List Rectangle)) (p : Option (List (List Rectangle))) → ((xs : List Rectangle) → o ≡ Some xs → length xs ≡ length cs) → ((rows : List (List Rectangle)) → p ≡ Some rows → length rows ≡ length cs)
          → and_then o (λ xs. and_then (option_map (columns_from 0 (length ds)) p) (λ rows. Some (xs ∷ rows))) ≡ option_map (columns_from 0 (suc (length ds))) (and_then o (λ xs. and_then p (λ rows. Some (joined xs rows))))
      go None p k l = refl
      go (Some xs) None k l = refl
      go (Some xs) (Some rows) k l = ap Some (sym (joined_columns (length ds) xs rows (k xs refl ∙ sym (l rows refl))))

  -- rows that hold f of each are the columns turned
  pub turned : (ds : List D) (cs : List R) → each (λ d. each (f d) cs) ds ≡ option_map (columns (length ds)) (each (λ c. each (λ d. f d c) ds) cs)
  unfolding columns
  turned ds cs = by_columns ds cs
