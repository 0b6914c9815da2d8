-- Loops that write a list place by place, and what a bench's rows are at first.
use Rattle.std.proofs.Common.{◌≡◌, ℕ, zero, suc, ◌+◌, ◌<◌, ◌≤◌, List, [], ◌∷◌, ◌++◌, length, get_or, set, take, drop, map, replicate, refl, sym, ap, ◌∙◌, append_assoc, append-nil, arith}
use Rattle.std.proofs.lemmas.List.{length-map, map-set, take_more_set, take_all, drop_all}
use Rattle.complex_interval.specs.Rectangles.{Rectangle}
use Rattle.plain_elimination.specs.Matrix.{nought_rectangle}
use Rattle.middle_inverse.specs.Inverse.{middle_point, one_rectangle, unit_row, with_units}

module _ {R X : Type 0} (h : R → X) (all : List X) where
  -- what is written up to i, and what is left of the whole
  abbrev pub WrittenTo : List R → ℕ → Type 0
  WrittenTo new i = all ≡ take i (map h new) ++ drop i all

  pub written_more : (new : List R) (i : ℕ) (d : R) → i < length new → drop i all ≡ h d ∷ drop (i + 1) all → WrittenTo new i → WrittenTo (set new i d) (i + 1)
  written_more new i d l e k =
      k
      ∙ ap (λ rest. take i (map h new) ++ rest) e
      ∙ sym (append_assoc (take i (map h new)) (h d ∷ []) (drop (i + 1) all))
      ∙ ap (λ front. front ++ drop (i + 1) all) (sym (ap (take (i + 1)) (map-set h new i d) ∙ take_more_set (map h new) i (h d) (rw (length-map new h) l)))

  pub written_all : (new : List R) (i : ℕ) → length new ≤ i → length all ≤ i → WrittenTo new i → map h new ≡ all
  written_all new i l m k = sym (k ∙ rw (take_all i (map h new) (rw (length-map new h) l), drop_all i all m) (append-nil (map h new)))

-- noughts with 1 at one place
pub unit_written : {X : Type 0} (one nought : X) (n i : ℕ) → i < n → set (replicate n nought) i one ≡ unit_row one nought n i
unit_written one nought zero i l = absurd (omega arith)
unit_written one nought (suc n) zero l = refl
unit_written one nought (suc n) (suc i) l = ap (λ xs. nought ∷ xs) (unit_written one nought n i (omega arith))

-- the rows by their numbers
pub drop-with_units : (s n j i : ℕ) (rows : List (List Rectangle)) → i < length rows
    → drop i (with_units s n j rows) ≡ (map middle_point (get_or rows i []) ++ unit_row (one_rectangle s) nought_rectangle n (j + i)) ∷ drop (i + 1) (with_units s n j rows)
drop-with_units s n j i [] l = absurd (omega arith)
drop-with_units s n j zero (row ∷ rows) l = let e : j + 0 ≡ j = omega arith in rw e refl
drop-with_units s n j (suc i) (row ∷ rows) l =
    let e : j + suc i ≡ suc j + i = omega arith in
    let f : suc i + 1 ≡ suc (i + 1) = omega arith in
    rw (e, f) (drop-with_units s n (suc j) i rows (omega arith))

pub length-with_units : (s n j : ℕ) (rows : List (List Rectangle)) → length (with_units s n j rows) ≡ length rows
length-with_units s n j [] = refl
length-with_units s n j (row ∷ rows) = ap suc (length-with_units s n (suc j) rows)
