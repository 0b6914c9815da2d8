-- What the sums of the cells of several orders hold.
use Rattle.std.proofs.Common.{◌≡◌, ap, sym, subst, ℕ, Bool, true, false, refl, List, [], ◌∷◌, map}
use Rattle.std.specs.Prelude.{Option, Some, None, IfSome, option_map, if◌then◌else◌}
use Rattle.std.specs.Option.{option_and_then}
use Rattle.std.specs.List.{AllByRecursion, AllZip, filter}
use Rattle.exact_algebra.specs.Ratio.{Ratio, plus}
use Rattle.exact_algebra.specs.Complex.{Complex}
use Rattle.network_theory.specs.Reach.{is_live}
use Rattle.network_theory.specs.State.{State}
use Rattle.distortion_bounds.specs.declared.squares.Squares.{Squares}
use Rattle.distortion_bounds.specs.Laws.{HoldsSizes}
use Rattle.ieee519_limits.specs.ExactVerdicts.{Bounds}
use Rattle.distortion_bounds.specs.Percents.{bounds_of}
use Rattle.distortion_bounds.specs.Totals.{total_of, sum_of}
use Rattle.ieee519_limits.specs.Verdicts.{verdict_of}
use Rattle.spectrum_reader.specs.declared.injection.Injection.{Injection}
use Rattle.study_model.specs.declared.records.Study.{Study}
use Rattle.limits_report.specs.declared.cell.Cell.{Cell}
use Rattle.limits_report.specs.declared.cell.Cell.TheVariants.{Dead, Live}
use Rattle.limits_report.specs.Cells.{live_squares, all_orders}
use Rattle.limits_report.specs.Lines.{low_of, high_of}
use Rattle.limits_report.specs.Table.{network_at}
use Rattle.limits_report.specs.Claim.{IsOnlyState, sum_over, both, IsTrueOver}
use Rattle.limits_report.proofs.Judged.{over_none, over_bounds}
use Rattle.limits_report.proofs.Seen.{IsTrueCell, HasSizes}

-- the orders among these in whose network the node is live
abbrev pub live_among : Study → ℕ → List ℕ → List ℕ
live_among study node orders = filter (λ order. is_live (network_at study order) node) orders

-- a value of each state, by its order
abbrev pub values : (ℕ → State → Complex) → List ℕ → List State → List Complex
values value (order ∷ orders) (s ∷ states) = value order s ∷ values value orders states
values value _ _ = []

-- only states of the orders in which the node is live, whose values these squares hold
pub record HaveSizes (study : Study) (rows : List Injection) (orders : List ℕ) (value : ℕ → State → Complex) (list : List Squares) : Type 0 where
  pub states : List State
  pub only : AllZip (IsOnlyState study rows) orders states
  pub held : AllZip (HoldsSizes study.scale) list (values value orders states)

one_more : (study : Study) (rows : List Injection) (order : ℕ) (orders : List ℕ) (value : ℕ → State → Complex) (q : Squares) (list : List Squares)
    → HasSizes study rows order (value order) q → HaveSizes study rows orders value list → HaveSizes study rows (order ∷ orders) value (q ∷ list)
one_more study rows order orders value q list h more = record { states = h.state ∷ more.states; only = (h.only, more.only); held = (h.held, more.held) }

dead_cell : (study : Study) (rows : List Injection) (node order : ℕ) (orders : List ℕ) (value : ℕ → State → Complex) (more : Option (List Squares)) → is_live (network_at study order) node ≡ false
    → IfSome more (HaveSizes study rows (live_among study node orders) value) → IfSome more (HaveSizes study rows (live_among study node (order ∷ orders)) value)
dead_cell study rows node order orders value more e rest =
    let P : Bool → Type 0 = λ b. IfSome more (HaveSizes study rows (if b then order ∷ live_among study node orders else live_among study node orders) value) in subst P (sym e) rest

with_more : (study : Study) (rows : List Injection) (order : ℕ) (orders : List ℕ) (value : ℕ → State → Complex) (q : Squares) (more : Option (List Squares))
    → HasSizes study rows order (value order) q → IfSome more (HaveSizes study rows orders value) → IfSome (option_map (λ list. q ∷ list) more) (HaveSizes study rows (order ∷ orders) value)
with_more study rows order orders value q None held all = tt
with_more study rows order orders value q (Some list) held all = one_more study rows order orders value q list held all

live_cell : (study : Study) (rows : List Injection) (node order : ℕ) (orders : List ℕ) (value : ℕ → State → Complex) (q : Squares) (more : Option (List Squares)) → is_live (network_at study order) node ≡ true
    → HasSizes study rows order (value order) q → IfSome more (HaveSizes study rows (live_among study node orders) value)
    → IfSome (option_map (λ list. q ∷ list) more) (HaveSizes study rows (live_among study node (order ∷ orders)) value)
live_cell study rows node order orders value q more e held rest =
    let P : Bool → Type 0 = λ b. IfSome (option_map (λ list. q ∷ list) more) (HaveSizes study rows (if b then order ∷ live_among study node orders else live_among study node orders) value) in
    subst P (sym e) (with_more study rows order (live_among study node orders) value q more held rest)

by_cell : (study : Study) (rows : List Injection) (node order : ℕ) (orders : List ℕ) (value : ℕ → State → Complex) (cells : List Cell) (c : Cell) → IsTrueCell study rows node (value order) order c
    → IfSome (live_squares cells) (HaveSizes study rows (live_among study node orders) value)
    → IfSome (live_squares (c ∷ cells)) (HaveSizes study rows (live_among study node (order ∷ orders)) value)
by_cell study rows node order orders value cells Dead h rest = dead_cell study rows node order orders value (live_squares cells) h rest
by_cell study rows node order orders value cells (Live None) h rest = tt
by_cell study rows node order orders value cells (Live (Some q)) h rest = live_cell study rows node order orders value q (live_squares cells) h.0 h.1 rest

-- cells of orders, and what follows of the squares of those that are live
held_squares : (study : Study) (rows : List Injection) (node : ℕ) (value : ℕ → State → Complex) (orders : List ℕ) (cell : ℕ → Cell)
    → AllByRecursion (λ order. IsTrueCell study rows node (value order) order (cell order)) orders
    → IfSome (live_squares (map cell orders)) (HaveSizes study rows (live_among study node orders) value)
held_squares study rows node value [] cell h = record { states = []; only = tt; held = tt }
held_squares study rows node value (order ∷ orders) cell h =
    by_cell study rows node order orders value (map cell orders) (cell order) h.0 (held_squares study rows node value orders cell h.1)

-- the sum of the squares of values is the sum over the states
pub sums_agree : (square : Complex → Ratio) (value : ℕ → State → Complex) (orders : List ℕ) (states : List State)
    → sum_of (map square (values value orders states)) ≡ sum_over (λ order s. square (value order s)) orders states
sums_agree square value [] states = refl
sums_agree square value (order ∷ orders) [] = refl
sums_agree square value (order ∷ orders) (s ∷ states) = ap (plus (square (value order s))) (sums_agree square value orders states)

-- bounds of the total of a list of squares hold the distortion
abbrev pub TotalLaw : ℕ → ℕ → Ratio → (Complex → Ratio) → Type 0
TotalLaw scale count rho square = (list : List Squares) (zs : List Complex) → AllZip (HoldsSizes scale) list zs
    → IfSome (option_and_then (bounds_of count rho scale) (total_of list)) (λ b. Bounds (Some b) (sum_of (map square zs)))

by_squares : (study : Study) (rows : List Injection) (orders : List ℕ) (value : ℕ → State → Complex) (count : ℕ) (rho : Ratio) (square : Complex → Ratio) (limit : ℕ) (some : Option (List Squares))
    → TotalLaw study.scale count rho square → IfSome some (HaveSizes study rows orders value)
    → let bounds = option_and_then (bounds_of count rho study.scale) (option_and_then total_of some) in
    IsTrueOver study rows orders (λ order s. square (value order s)) (both (low_of bounds) (high_of bounds)) limit (verdict_of bounds limit)
by_squares study rows orders value count rho square limit None law h = over_none study rows orders (λ order s. square (value order s)) limit
by_squares study rows orders value count rho square limit (Some list) law h =
    let bounds = option_and_then (bounds_of count rho study.scale) (total_of list) in
    over_bounds study rows orders (λ order s. square (value order s)) bounds limit h.states h.only
    (subst (λ D. IfSome bounds (λ b. Bounds (Some b) D)) (sums_agree square value orders h.states) (law list (values value orders h.states) h.held))

-- The row of a total is true, where the cells of its orders are.
pub total_true : (study : Study) (rows : List Injection) (node : ℕ) (value : ℕ → State → Complex) (count : ℕ) (rho : Ratio) (square : Complex → Ratio) (limit : ℕ) (orders : List ℕ) (cell : ℕ → Cell)
    → TotalLaw study.scale count rho square → AllByRecursion (λ order. IsTrueCell study rows node (value order) order (cell order)) orders
    → let bounds = option_and_then (bounds_of count rho study.scale) (all_orders (map cell orders)) in
    IsTrueOver study rows (live_among study node orders) (λ order s. square (value order s)) (both (low_of bounds) (high_of bounds)) limit (verdict_of bounds limit)
unfolding all_orders
total_true study rows node value count rho square limit orders cell law h =
    by_squares study rows (live_among study node orders) value count rho square limit (live_squares (map cell orders)) law (held_squares study rows node value orders cell h)
