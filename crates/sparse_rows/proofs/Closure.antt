-- The symbolic fill: where each row passes what it marks on to the row of the first place that it marks behind the diagonal, the places are closed.
use Rattle.std.proofs.Common.{◌≡◌, ⊎_elim, ℕ, zero, suc, ◌+◌, ◌*◌, ◌<◌, ◌≤◌, List, get_or, Bool, true, false, sym, subst, ap, ◌∙◌, arith}
use Rattle.std.proofs.lemmas.Bool.{cases_Bool}
use Rattle.sparse_rows.specs.Marks.{IsMarked, PassesOn}
use Rattle.sparse_rows.proofs.Outside.{by_lt}

-- the first place of a list of tests at or behind a, up to one that passes
record First (P : ℕ → Bool) (a i : ℕ) : Type 0 where
  at : ℕ
  from : a ≤ at
  to : at ≤ i
  passes : P at ≡ true
  none : (q : ℕ) → a ≤ q → q < at → P q ≡ false

first_of_tests : (P : ℕ → Bool) (d a i : ℕ) → a ≤ i → i < a + d → P i ≡ true → First P a i
first_of_tests P zero a i l m e = absurd (omega arith)
first_of_tests P (suc d) a i l m e =
    ⊎_elim
    (λ (t : P a ≡ true). record { at = a; from = omega arith; to = l; passes = t; none = λ q u v. absurd (omega arith) })
    (λ (f : P a ≡ false).
    by_lt a i
    (λ (s : a < i).
    let rest = first_of_tests P d (a + 1) i (omega arith) (omega arith) e in
    let from : a ≤ rest.at = omega (arith, rest.from) in
    let none : (q : ℕ) → a ≤ q → q < rest.at → P q ≡ false =
    λ q u v. by_lt a q (λ (w : a < q). rest.none q (omega arith) v) (λ (w : q ≤ a). let same : a ≡ q = omega arith in subst (λ r. P r ≡ false) same f)
    in
    record { at = rest.at; from = from; to = rest.to; passes = rest.passes; none = none })
    (λ (s : i ≤ a).
    let same : i ≡ a = omega arith in
    let no : true ≡ false = sym e ∙ ap P same ∙ f in
    absurd cc))
    (cases_Bool (P a))

module _ (n : ℕ) (marks : List Bool) (passed : (k : ℕ) → k < n → PassesOn n marks k) where
  closed_by : (d k i j : ℕ) → i ≤ k + d → k < i → i < j → j < n → IsMarked marks (k * n + i) → IsMarked marks (k * n + j) → IsMarked marks (i * n + j)
  closed_by zero k i j b l m h ei ej = absurd (omega arith)
  closed_by (suc d) k i j b l m h ei ej =
      let first = first_of_tests (λ q. get_or marks (k * n + q) false) (suc d) (k + 1) i (omega arith) (omega arith) ei in
      let p = first.at in
      let lp : k < p = omega (arith, first.from) in
      let lj : p < j = omega (arith, first.to) in
      let none : (q : ℕ) → k < q → q < p → get_or marks (k * n + q) false ≡ false = λ q u v. first.none q (omega arith) v in
      let on_j : IsMarked marks (p * n + j) = passed k (omega arith) p j lp lj h first.passes none ej in
      by_lt p i
      (λ (s : p < i).
      let on_i : IsMarked marks (p * n + i) = passed k (omega arith) p i lp s (omega arith) first.passes none ei in
      closed_by d p i j (omega arith) s m h on_i on_j)
      (λ (s : i ≤ p). let same : p ≡ i = omega (arith, first.to) in subst (λ r. IsMarked marks (r * n + j)) same on_j)

  -- with two places of a row behind the diagonal the place where the row of the first meets the column of the second
  pub closed : (k i j : ℕ) → k < i → i < j → j < n → IsMarked marks (k * n + i) → IsMarked marks (k * n + j) → IsMarked marks (i * n + j)
  closed k i j l m h ei ej = closed_by i k i j (omega arith) l m h ei ej
