-- What is found, step by step.
use Rattle.std.proofs.Common.{◌≡◌, ◌∙◌, ℕ, ◌+◌, ◌<◌, List, [], ◌∷◌, ap, drop, slice_get, Option, Some, None, refl, sym, arith}
use Rattle.std.specs.Option.{option_map}
use Rattle.std.proofs.lemmas.Option.{slice_get-get_or}
use Rattle.complex_interval.specs.Rectangles.{Rectangle}
use Rattle.middle_inverse.specs.Lists.{each}
use Rattle.admittance_box.specs.Steps.{◌>>=◌}
use Rattle.branchwise_test.specs.Drops.{DropEnds}
use Rattle.branchwise_test.specs.Sizes.{Bounds, drop_over, all_voltages, kept_size, bounds_of}
use Rattle.branchwise_test.specs.Reach.{Contraction, contraction}
use Rattle.branchwise_test.specs.Enclosed.{found, with_term, correction}
use Rattle.drop_bench.specs.Columns.{column_of, columns}
use Rattle.drop_bench.specs.Near.{found_by}
use Rattle.drop_bench.proofs.Columns.{columns_count, column_at}

-- one map after another
pub option_mapped : {X Y Z : Type 0} (f : Y → Z) (h : X → Y) (o : Option X) → option_map (λ x. f (h x)) o ≡ option_map f (option_map h o)
option_mapped f h (Some x) = refl
option_mapped f h None = refl

-- ---- the correction, drop by drop
module _ (s k i : ℕ) (sum x : Rectangle) (d : DropEnds) (ds : List DropEnds) (column : List Rectangle) (vs : List (List Rectangle)) (xs : List Rectangle) (ed : drop i ds ≡ d ∷ drop (i + 1) ds) (ev : drop i vs ≡ column ∷ drop (i + 1) vs) (ex : drop i xs ≡ x ∷ drop (i + 1) xs) where
  pub correction_more : (more : Rectangle) → Some more ≡ with_term s k sum d column x → correction s k sum (drop i ds) (drop i vs) (drop i xs) ≡ correction s k more (drop (i + 1) ds) (drop (i + 1) vs) (drop (i + 1) xs)
  correction_more more e = rw (ed, ev, ex, ← e) refl

  pub correction_none : None ≡ with_term s k sum d column x → correction s k sum (drop i ds) (drop i vs) (drop i xs) ≡ None
  correction_none e = rw (ed, ev, ex, ← e) refl

-- ---- what is found
column_got : (n k : ℕ) (rows : List (List Rectangle)) → k < n → slice_get (columns n rows) k ≡ Some (column_of k rows)
column_got n k rows l = let count = columns_count n rows in slice_get-get_or (columns n rows) k [] (omega (arith, count)) ∙ ap Some (column_at n k rows l)

module _ (s k n : ℕ) (drops : List DropEnds) (ps cs rows : List (List Rectangle)) (b : Bounds) (inside : k < n) (e1 : Some (columns n rows) ≡ all_voltages s cs drops) (e2 : Some b ≡ bounds_of s drops ps cs (columns n rows)) where
  last_step : (xs : List Rectangle) (o : Option Contraction) → (o >>= (λ c. Some (found_by n rows k xs c))) ≡ option_map (found_by n rows k xs) o
  last_step xs (Some c) = refl
  last_step xs None = refl

  pub found_done : (xs : List Rectangle) (sizes : List ℕ) (o : Option Contraction) → Some xs ≡ each (λ d. drop_over s d.taps (column_of k rows)) drops → Some sizes ≡ each kept_size xs → o ≡ contraction s k b drops sizes → option_map (found_by n rows k xs) o ≡ found s k drops ps cs
  found_done xs sizes o e4 e5 e6 = rw (← e1, ← e2, column_got n k rows inside, ← e4, ← e5, ← e6) (sym (last_step xs o))

  pub no_drops : None ≡ each (λ d. drop_over s d.taps (column_of k rows)) drops → found s k drops ps cs ≡ None
  no_drops e4 = rw (← e1, ← e2, column_got n k rows inside, ← e4) refl

  pub no_sizes : (xs : List Rectangle) → Some xs ≡ each (λ d. drop_over s d.taps (column_of k rows)) drops → None ≡ each kept_size xs → found s k drops ps cs ≡ None
  no_sizes xs e4 e5 = rw (← e1, ← e2, column_got n k rows inside, ← e4, ← e5) refl
