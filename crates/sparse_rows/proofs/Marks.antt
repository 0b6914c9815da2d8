-- Marks that are added to the marks of a square.
use Rattle.std.proofs.Common.{◌≡◌, ◌≢◌, ◌⊎◌, ⊎_elim, inl, inr, ℕ, ◌+◌, ◌*◌, ◌<◌, ◌≤◌, List, length, get_or, get_or-set_same, get_or-set_other, set, Bool, true, false, replicate, refl, sym, ap, ap₂, ◌∙◌, arith}
use Rattle.std.proofs.lemmas.Bool.{cases_eq}
use Rattle.std.proofs.lemmas.List.{length-set, length-replicate, get_or-replicate, get_or_past}
use Rattle.std.proofs.lemmas.List.Elements.{All-weaker}
use Rattle.exact_algebra.proofs.Differences.{products}
use Rattle.plain_elimination.proofs.Layouts.{row_fits}
use Rattle.plain_elimination.specs.declared.pattern.Spot.{Spot}
use Rattle.sparse_rows.specs.Marks.{IsMarked, IsSymmetric, Grown, PassesOn, Covers, IsFilled}
use Rattle.sparse_rows.proofs.Closure.{closed}
use Rattle.sparse_rows.proofs.Outside.{by_lt}

-- one place, one row and column
same_place : (n i j a b : ℕ) → j < n → b < n → i * n + j ≡ a * n + b → (i ≡ a) × (j ≡ b)
same_place n i j a b lj lb e =
    let same : i ≡ a =
    by_lt i a
    (λ (l : i < a). absurd (omega (arith, row_fits i a n l)))
    (λ (g : a ≤ i). by_lt a i (λ (l : a < i). absurd (omega (arith, row_fits a i n l))) (λ (h : i ≤ a). omega arith))
    in
    let rows : i * n ≡ a * n = ap (λ r. r * n) same in
    (same, omega arith)

set_grows : (xs : List Bool) (a q : ℕ) → a < length xs → IsMarked xs q → IsMarked (set xs a true) q
set_grows xs a q l m =
    ⊎_elim
    (λ (s : q ≡ a). ap (λ p. get_or (set xs a true) p false) s ∙ get_or-set_same xs a true false l)
    (λ (n : q ≢ a). get_or-set_other xs a q true false n ∙ m)
    (cases_eq q a)

set_only : (xs : List Bool) (a q : ℕ) → IsMarked (set xs a true) q → (q ≡ a) ⊎ IsMarked xs q
set_only xs a q m = ⊎_elim (λ (s : q ≡ a). inl s) (λ (n : q ≢ a). inr (sym (get_or-set_other xs a q true false n) ∙ m)) (cases_eq q a)

-- ---- one more place, and the one across the diagonal
module _ (n a b : ℕ) (xs : List Bool) (la : a < n) (lb : b < n) (square : length xs ≡ n * n) where
  abbrev once : List Bool
  once = set xs (a * n + b) true

  abbrev twice : List Bool
  twice = set once (b * n + a) true

  there : a * n + b < length xs
  there = omega (arith, row_fits a n n la)

  back : b * n + a < length once
  back = omega (arith, row_fits b n n lb, length-set xs (a * n + b) true)

  pub marked_here : IsMarked twice (a * n + b)
  marked_here = set_grows once (b * n + a) (a * n + b) back (get_or-set_same xs (a * n + b) true false there)

  grows : (q : ℕ) → IsMarked xs q → IsMarked twice q
  grows q m = set_grows once (b * n + a) q back (set_grows xs (a * n + b) q there m)

  across : IsSymmetric n xs → IsSymmetric n twice
  across old i j li lj m =
      ⊎_elim
      (λ (s : i * n + j ≡ b * n + a).
      let p = same_place n i j b a lj la s in
      ap (λ q. get_or twice q false) (ap₂ (λ x y. x * n + y) p.1 p.0) ∙ marked_here)
      (λ (k : IsMarked once (i * n + j)).
      ⊎_elim
      (λ (s : i * n + j ≡ a * n + b).
      let p = same_place n i j a b lj lb s in
      ap (λ q. get_or twice q false) (ap₂ (λ x y. x * n + y) p.1 p.0) ∙ get_or-set_same once (b * n + a) true false back)
      (λ (o : IsMarked xs (i * n + j)). grows (j * n + i) (old i j li lj o))
      (set_only xs (a * n + b) (i * n + j) k))
      (set_only once (b * n + a) (i * n + j) m)

  pub marked_grown : (from : ℕ) → from ≤ a * n + b → from ≤ b * n + a → Grown n from xs twice
  marked_grown from fa fb = record {
    grows = grows;
    across = across;
    front = λ q l.
        let other : q ≢ a * n + b = omega arith in
        let other' : q ≢ b * n + a = omega arith in
        get_or-set_other once (b * n + a) q true false other' ∙ get_or-set_other xs (a * n + b) q true false other;
  }

-- ---- more and more places
pub grown_none : (n from : ℕ) (xs : List Bool) → Grown n from xs xs
grown_none n from xs = record { grows = λ q m. m; across = λ s. s; front = λ q l. refl }

pub grown_then : (n from : ℕ) (old mid new : List Bool) → Grown n from old mid → Grown n from mid new → Grown n from old new
grown_then n from old mid new f g = record {
  grows = λ q m. g.grows q (f.grows q m);
  across = λ s. g.across (f.across s);
  front = λ q l. g.front q l ∙ f.front q l;
}

pub grown_less : (n from less : ℕ) (old new : List Bool) → less ≤ from → Grown n from old new → Grown n less old new
grown_less n from less old new l g = record { grows = g.grows; across = g.across; front = λ q m. g.front q (omega arith) }

-- what a row passed on stays so, while marks are added behind the row
pub passes_kept : (n from k : ℕ) (old new : List Bool) → (k + 1) * n ≤ from → Grown n from old new → PassesOn n old k → PassesOn n new k
passes_kept n from k old new l g passes p j lp lj h mp none mj =
    let row : (k + 1) * n ≡ k * n + n = omega (arith, products) in
    let same : (i : ℕ) → i < n → get_or new (k * n + i) false ≡ get_or old (k * n + i) false = λ i m. g.front (k * n + i) (omega arith) in
    g.grows (p * n + j)
    (passes p j lp lj h (sym (same p (omega arith)) ∙ mp) (λ i u v. sym (same i (omega arith)) ∙ none i u v) (sym (same j h) ∙ mj))

-- what a row has passed on to row p, up to column j
pub record PassedTo (n k p : ℕ) (old new : List Bool) (j : ℕ) : Type 0 where
  pub passed : (i : ℕ) → p < i → i < j → IsMarked old (k * n + i) → IsMarked new (p * n + i)
  pub grown : Grown n ((k + 1) * n) old new

pub passed_none : (n k p : ℕ) (marks : List Bool) → PassedTo n k p marks marks (p + 1)
passed_none n k p marks = record { passed = λ i l m e. absurd (omega arith); grown = grown_none n ((k + 1) * n) marks }

pub passed_more : (n k p j : ℕ) (old mid new : List Bool) → Grown n ((k + 1) * n) mid new → IsMarked new (p * n + j) → PassedTo n k p old mid j → PassedTo n k p old new (j + 1)
passed_more n k p j old mid new g here to = record {
  passed = λ i l m e. by_lt i j (λ (b : i < j). g.grows (p * n + i) (to.passed i l b e)) (λ (b : j ≤ i). let same : j ≡ i = omega arith in ap (λ c. get_or new (p * n + c) false) (sym same) ∙ here);
  grown = grown_then n ((k + 1) * n) old mid new to.grown g;
}

pub passed_over : (n k p j : ℕ) (old mid : List Bool) → j < n → get_or mid (k * n + j) false ≡ false → PassedTo n k p old mid j → PassedTo n k p old mid (j + 1)
passed_over n k p j old mid lj none to = record {
  passed = λ i l m e.
      by_lt i j (λ (b : i < j). to.passed i l b e)
      (λ (b : j ≤ i).
      let same : j ≡ i = omega arith in
      let row : (k + 1) * n ≡ k * n + n = omega (arith, products) in
      let no : true ≡ false = sym e ∙ ap (λ c. get_or old (k * n + c) false) (sym same) ∙ sym (to.grown.front (k * n + j) (omega arith)) ∙ none in
      absurd cc);
  grown = to.grown;
}

clear_across : (n m : ℕ) → IsSymmetric n (replicate m false)
clear_across n m i j li lj e =
    by_lt (i * n + j) m
    (λ (l : i * n + j < m). let no : true ≡ false = sym e ∙ get_or-replicate m (i * n + j) false false l in absurd cc)
    (λ (l : m ≤ i * n + j). let no : true ≡ false = sym e ∙ get_or_past (replicate m false) (i * n + j) false (omega (arith, length-replicate m false)) in absurd cc)

-- the diagonal, then the places, then what the rows pass on
pub filled : (n : ℕ) (places : List Spot) (clear diagonal placed new : List Bool) → clear ≡ replicate (n * n) false → length new ≡ n * n
    → ((k : ℕ) → k < n → IsMarked diagonal (k * n + k)) → Grown n 0 clear diagonal → Covers n places placed → Grown n 0 diagonal placed → ((k : ℕ) → k < n → PassesOn n new k) → Grown n 0 placed new
    → IsFilled n places new
filled n places clear diagonal placed new none square on_diagonal f covers g passed h = record {
  square = square;
  covers = All-weaker (λ s. IsMarked placed (s.row * n + s.column)) (λ s. IsMarked new (s.row * n + s.column)) (λ s m. h.grows (s.row * n + s.column) m) places covers;
  diagonal = λ k l. h.grows (k * n + k) (g.grows (k * n + k) (on_diagonal k l));
  across = h.across (g.across (f.across (rw none (clear_across n (n * n)))));
  closed = closed n new passed;
}
