-- A sum over two lists, one item of each after another.
use Rattle.std.proofs.Common.{◌≡◌, ◌∙◌, ℕ, ◌+◌, ◌<◌, List, length, map, drop, get_or, refl, sym, ap, Option}
use Rattle.std.specs.Prelude.{Some, None}
use Rattle.complex_interval.specs.Ends.{Ends}
use Rattle.complex_interval.specs.Rectangles.{Rectangle}
use Rattle.net_branch.specs.declared.network.Branch.{Branch}
use Rattle.net_branch.specs.Exact.{exact_branch}
use Rattle.admittance_box.specs.Addends.{place_in_group}
use Rattle.admittance_box.specs.Current.{fold_pairs, with_first, with_all}
use Rattle.admittance_box.specs.Steps.{◌>>=◌}
use Rattle.admittance_box.proofs.TapLoops.{drop_item}

module _ {S X Y : Type 0} (f : S → Y → Y → Option S) (exact : X → Y) (low high : List X) (i : ℕ) (t u : X) (low_in : i < length low) (low_at : t ≡ get_or low i t) (high_in : i < length high) (high_at : u ≡ get_or high i u) (sum : S) (whole : Option S)
    (so_far : fold_pairs f sum (map exact (drop i low)) (map exact (drop i high)) ≡ whole) where
  first : fold_pairs f sum (map exact (drop i low)) (map exact (drop i high)) ≡ (f sum (exact t) (exact u) >>= (λ next. fold_pairs f next (map exact (drop (i + 1) low)) (map exact (drop (i + 1) high))))
  first = rw (drop_item low i t low_in low_at, drop_item high i u high_in high_at) refl

  -- one item more
  pub fold_more : (next : S) → Some next ≡ f sum (exact t) (exact u) → fold_pairs f next (map exact (drop (i + 1) low)) (map exact (drop (i + 1) high)) ≡ whole
  fold_more next e = ap (λ o. o >>= (λ n. fold_pairs f n (map exact (drop (i + 1) low)) (map exact (drop (i + 1) high)))) e ∙ sym first ∙ so_far

  -- an item that has no value
  pub fold_stops : None ≡ f sum (exact t) (exact u) → None ≡ whole
  fold_stops e = ap (λ o. o >>= (λ n. fold_pairs f n (map exact (drop (i + 1) low)) (map exact (drop (i + 1) high)))) e ∙ sym first ∙ so_far

-- so of branches, each with those after it
module _ (s : ℕ) (h : Ends) (ordering : List ℕ) (volts : List Rectangle) (owner node : ℕ) (low high : List Branch) (i : ℕ) (a b : Branch) (low_in : i < length low) (low_at : a ≡ get_or low i a) (high_in : i < length high) (high_at : b ≡ get_or high i b)
    (sum : Rectangle) (whole : Option Rectangle) (so_far : with_all s h ordering volts owner node sum (map exact_branch (drop i low)) (map exact_branch (drop i high)) ≡ whole) where
  abbrev pub step_of : Option Rectangle
  step_of = with_first s h ordering volts owner node (place_in_group (exact_branch a).law) sum (exact_branch a) (map exact_branch (drop (i + 1) low)) (exact_branch b) (map exact_branch (drop (i + 1) high))

  abbrev rest_of : Rectangle → Option Rectangle
  rest_of next = with_all s h ordering volts owner node next (map exact_branch (drop (i + 1) low)) (map exact_branch (drop (i + 1) high))

  first_branch : with_all s h ordering volts owner node sum (map exact_branch (drop i low)) (map exact_branch (drop i high)) ≡ (step_of >>= rest_of)
  first_branch = rw (drop_item low i a low_in low_at, drop_item high i b high_in high_at) refl

  -- one branch more
  pub all_more : (next : Rectangle) → Some next ≡ step_of → rest_of next ≡ whole
  all_more next e = ap (λ o. o >>= rest_of) e ∙ sym first_branch ∙ so_far

  -- a branch that has no value
  pub all_stops : None ≡ step_of → None ≡ whole
  all_stops e = ap (λ o. o >>= rest_of) e ∙ sym first_branch ∙ so_far
