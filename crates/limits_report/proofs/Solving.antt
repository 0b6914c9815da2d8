-- What an order of the spectrum needs for its solution, and what follows of it.
use Rattle.std.proofs.Common.{◌≡◌, ◌∙◌, ap, sym, subst, ℕ, ◌⊎◌, inl, inr, ◌<◌, ◌≤◌, Bool, true, false, List, [], ◌∷◌, map, length, get_or, refl, arith}
use Rattle.admittance_box.proofs.NodeOrderings.{below_or}
use Rattle.std.proofs.lemmas.Bool.{cases_Bool}
use Rattle.std.proofs.lemmas.List.{get_or_past}
use Rattle.std.proofs.lemmas.List.Elements.{All-from_recursion}
use Rattle.std.specs.Prelude.{◌||◌, OnOk, not, nat_eq, Option, Some, None, IfSome, Result, Ok, Err, All}
use Rattle.std.specs.List.{AllByRecursion, list_any}
use Rattle.complex_interval.specs.Rectangles.{Rectangle}
use Rattle.network_theory.specs.Live.{Live}
use Rattle.network_theory.specs.Network.{Network, IsWhole}
use Rattle.network_theory.specs.Reach.{is_live}
use Rattle.network_theory.proofs.Phases.{live_is_node}
use Rattle.network_theory.proofs.Reach.{live_in_rounds}
use Rattle.net_branch.specs.declared.network.Network.{Network as NetNetwork}
use Rattle.net_branch.specs.Exact.{exact_network}
use Rattle.net_branch.specs.LiveNodes.{AreLive}
use Rattle.net_branch.specs.Whole.{IsWholeNetwork}
use Rattle.node_injection.specs.Injected.{ExactInjection, exact_injection, injected}
use Rattle.node_injection.specs.declared.injection.NodeInjection.{NodeInjection}
use Rattle.distortion_bounds.specs.Solved.{IsSolvedFor}
use Rattle.distortion_bounds.specs.Solver.{Solver, HasLiveNode, answer_of, new_solver, order_solution, solution_of, solving_order}
use Rattle.distortion_bounds.specs.declared.solved.Solved.{Solved}
use Rattle.distortion_bounds.specs.declared.solved.Solved.TheVariants.{Done}
use Rattle.harmonic_injection.specs.Injections.{injections_of}
use Rattle.spectrum_reader.specs.declared.injection.Injection.{Injection}
use Rattle.study_model.specs.declared.records.Study.{Study}
use Rattle.limits_report.specs.declared.cell.OrderCells.{OrderCells}
use Rattle.limits_report.specs.declared.site.Site.{Site}
use Rattle.limits_report.specs.declared.site.Subject.{Subject}
use Rattle.limits_report.specs.declared.site.Subject.TheVariants.{Voltage, Current}
use Rattle.limits_report.specs.Fit.{IsFitCell, AreFitCells}
use Rattle.limits_report.specs.Marks.{AreMarks}
use Rattle.limits_report.specs.Sites.{sites_of}
use Rattle.limits_report.specs.Table.{occurs, network_at, is_unfed, found_of, solver_of, solver_at, cell_of, squares_at, site_cell, cells_with, cells_of}
use Rattle.limits_report.specs.Truth.{AreTrueSquares, IsTrueSite, IsTrueSolver, IsTrueOrder}

-- ---- live nodes
same_test : (a b : Bool) → (a ≡ true → b ≡ true) → (b ≡ true → a ≡ true) → a ≡ b
same_test true true f g = refl
same_test true false f g = absurd (cc (f refl))
same_test false true f g = absurd (cc (g refl))
same_test false false f g = refl

-- one value for each node says what the rounds say, and past the last none is live
pub marked : (network : NetNetwork) (marks slice : List Bool) → IsWholeNetwork network → AreLive network marks → slice ≡ marks → AreMarks (exact_network network) slice
marked network marks slice whole live e = subst (λ xs. AreMarks (exact_network network) xs) (sym e) (λ n. go n (below_or n network.nodes))
  where
    go : (n : ℕ) → (n < network.nodes) ⊎ (network.nodes ≤ n) → get_or marks n false ≡ is_live (exact_network network) n
    go n (inl h) =
        let rounds = live_in_rounds (exact_network network) whole.exact n in
        let each = live.each n h in
        same_test (get_or marks n false) (is_live (exact_network network) n) (λ t. rounds.1 (each.0 t)) (λ t. each.1 (rounds.0 t))
    go n (inr h) =
        let rounds = live_in_rounds (exact_network network) whole.exact n in
        let past : get_or marks n false ≡ false = get_or_past marks n false (let c = live.count in omega arith) in
        same_test (get_or marks n false) (is_live (exact_network network) n) (λ t. absurd (cc))
        (λ t. absurd (let below = live_is_node (exact_network network) whole.exact n (rounds.0 t) in omega arith))

-- ---- injections at live nodes
not_or : (a b : Bool) → (not a || b) ≡ false → (a ≡ true) × (b ≡ false)
not_or true b h = (refl, h)
not_or false b h = absurd (cc)

-- the test by the marks is the test by the network
pub same_unfed : (network : Network) (marks : List Bool) (injections : List NodeInjection) → AreMarks network marks
    → list_any (λ at. not (get_or marks at.node.number false)) injections ≡ is_unfed network (map exact_injection injections)
same_unfed network marks [] m = refl
same_unfed network marks (at ∷ injections) m =
    ap (λ b. not b || list_any (λ (i : NodeInjection). not (get_or marks i.node.number false)) injections) (m at.node.number)
    ∙ ap (λ r. not (is_live network at.node.number) || r) (same_unfed network marks injections m)

pub first_live : (network : Network) (list : List ExactInjection) → IsWhole network → 0 < length list → is_unfed network list ≡ false → HasLiveNode network
first_live network [] whole some h = absurd (omega arith)
first_live network (at ∷ list) whole some h =
    let both = not_or (is_live network at.node) (is_unfed network list) h in
    record { node = at.node; live = (live_in_rounds network whole at.node).0 both.0 }

each_live : (network : Network) (injections : List NodeInjection) → IsWhole network → is_unfed network (map exact_injection injections) ≡ false → AllByRecursion (λ at. Live network at.node.number) injections
each_live network [] whole h = tt
each_live network (at ∷ injections) whole h =
    let both = not_or (is_live network at.node.number) (is_unfed network (map exact_injection injections)) h in
    ((live_in_rounds network whole at.node.number).0 both.0, each_live network injections whole both.1)

pub all_live : (network n : Network) (injections : List NodeInjection) → IsWhole network → is_unfed network (map exact_injection injections) ≡ false → n ≡ network → All (λ (at : NodeInjection). Live n at.node.number) injections
all_live network n injections whole h e =
    subst (λ m. All (λ (at : NodeInjection). Live m at.node.number) injections) (sym e) (All-from_recursion _ injections (each_live network injections whole h))

-- an order that occurs has an injection
pub some_injection : (study : Study) (rows : List Injection) (order : ℕ) → occurs rows order ≡ true → 0 < length (injections_of study rows order)
unfolding injections_of
some_injection study [] order h = absurd (cc)
some_injection study (row ∷ rows) order h = elim (cases_Bool (nat_eq row.order order)) [
  | inl is ↦ rw is (omega arith)
  | inr isn ↦ rw isn (some_injection study rows order (rw isn at h))
]

-- ---- an order that is solved
pub fed_solver : (scale : ℕ) (network : Network) (order : ℕ) (list : List ExactInjection) → is_unfed network list ≡ false
    → record { network = network; ordering = solving_order network; found = solution_of order (order_solution scale network (solving_order network) order list) } ≡ solver_of scale network order list
fed_solver scale network order list h =
    let found : found_of scale network order list ≡ solution_of order (order_solution scale network (solving_order network) order list) = rw h refl in
    ap (λ f. record { network = network; ordering = solving_order network; found = f }) (sym found)

-- a solver that found a solution was done
by_answer : (scale : ℕ) (solver : Solver) (order : ℕ) (list : List ExactInjection) (r : Result (List Rectangle) Solved) (answer : Solved) → solver.found ≡ solution_of order r → answer ≡ answer_of r
    → (answer ≡ Done → IsSolvedFor scale solver order (injected list)) → IfSome solver.found (λ solution. IsSolvedFor scale solver order (injected list))
by_answer scale solver order list (Ok volts) answer found is solved = subst (λ f. IfSome f (λ _. IsSolvedFor scale solver order (injected list))) (sym found) (solved is)
by_answer scale solver order list (Err e) answer found is solved = subst (λ f. IfSome f (λ _. IsSolvedFor scale solver order (injected list))) (sym found) tt

pub solved_solver : (scale : ℕ) (solver : Solver) (order : ℕ) (list : List ExactInjection) (sites : List Site) (r : Result (List Rectangle) Solved) (answer : Solved) → solver.found ≡ solution_of order r → answer ≡ answer_of r
    → (answer ≡ Done → IsSolvedFor scale solver order (injected list)) → AllByRecursion (IsTrueSite scale solver) sites → IsTrueSolver scale solver order list sites
solved_solver scale solver order list sites r answer found is solved all = record { solved = by_answer scale solver order list r answer found is solved; each = all }

-- what a solver that was made and has solved the order is
pub solved_order : (scale : ℕ) (network : Network) (order : ℕ) (list : List ExactInjection) (sites : List Site) (old new : Solver) (answer : Solved) → is_unfed network list ≡ false
    → old ≡ new_solver network → new ≡ record old { found = solution_of order (order_solution scale old.network old.ordering order list) } → answer ≡ answer_of (order_solution scale old.network old.ordering order list)
    → (answer ≡ Done → IsSolvedFor scale new order (injected list)) → AllByRecursion (IsTrueSite scale new) sites → IsTrueSolver scale (solver_of scale network order list) order list sites
solved_order scale network order list sites old new answer fed made after is solved all =
    let with_found : Solver → Solver = λ o. record o { found = solution_of order (order_solution scale o.network o.ordering order list) } in
    let same : new ≡ solver_of scale network order list = after ∙ ap with_found made ∙ fed_solver scale network order list fed in
    subst (λ s. IsTrueSolver scale s order list sites) same
    (solved_solver scale new order list sites (order_solution scale old.network old.ordering order list) answer (ap (λ (s : Solver). s.found) after) is solved all)

-- ---- one that isn't
unfound : (scale : ℕ) (network : Network) (order : ℕ) (list : List ExactInjection) → is_unfed network list ≡ true → found_of scale network order list ≡ None
unfound scale network order list h = rw h refl

no_squares : (scale : ℕ) (solver : Solver) (subject : Subject) (node : ℕ) → solver.found ≡ None → squares_at scale solver subject node ≡ None
no_squares scale solver (Voltage number bus) node e = rw e refl
no_squares scale solver (Current point) node e = rw e refl

pub without_squares : (scale : ℕ) (network : Network) (order : ℕ) (list : List ExactInjection) (marks : List Bool) → AreMarks network marks → is_unfed network list ≡ true → (sites : List Site)
    → map (λ (site : Site). cell_of (get_or marks site.node false) None) sites ≡ map (site_cell scale (solver_of scale network order list)) sites
without_squares scale network order list marks m h [] = refl
without_squares scale network order list marks m h (site ∷ sites) =
    let solver = solver_of scale network order list in
    let first : cell_of (get_or marks site.node false) None ≡ site_cell scale solver site =
    ap (λ b. cell_of b None) (m site.node) ∙ ap (cell_of (is_live network site.node)) (sym (no_squares scale solver site.subject site.node (unfound scale network order list h))) in
    ap (λ c. c ∷ map (λ (s : Site). cell_of (get_or marks s.node false) None) sites) first
    ∙ ap (λ cs. site_cell scale solver site ∷ cs) (without_squares scale network order list marks m h sites)

fit_dead : (b : Bool) → IsFitCell (cell_of b None)
fit_dead true = tt
fit_dead false = tt

all_fit : (marks : List Bool) (sites : List Site) → AllByRecursion IsFitCell (map (λ (site : Site). cell_of (get_or marks site.node false) None) sites)
all_fit marks [] = tt
all_fit marks (site ∷ sites) = (fit_dead (get_or marks site.node false), all_fit marks sites)

pub unfed_fit : (scale : ℕ) (network : Network) (order : ℕ) (list : List ExactInjection) (marks : List Bool) (sites : List Site) → AreMarks network marks → is_unfed network list ≡ true → 2 ≤ order → order ≤ 50
    → AreFitCells (cells_with scale (solver_of scale network order list) order sites)
unfed_fit scale network order list marks sites m h low high =
    record { low = low; high = high; each = subst (λ cs. AllByRecursion IsFitCell cs) (without_squares scale network order list marks m h sites) (all_fit marks sites) }

no_solution : {X : Type 0} (o : Option X) (x : X) → o ≡ None → o ≡ Some x → ⊥
no_solution o x e k = cc

-- nothing is said of a solution that isn't there
vacuous : (scale : ℕ) (solver : Solver) (subject : Subject) (node : ℕ) → solver.found ≡ None → AreTrueSquares scale solver subject node
vacuous scale solver (Voltage number bus) node e = λ solution k. absurd (no_solution solver.found solution e k)
vacuous scale solver (Current point) node e = λ solution k. absurd (no_solution solver.found solution e k)

all_vacuous : (scale : ℕ) (solver : Solver) → solver.found ≡ None → (sites : List Site) → AllByRecursion (IsTrueSite scale solver) sites
all_vacuous scale solver e [] = tt
all_vacuous scale solver e (site ∷ sites) = (vacuous scale solver site.subject site.node e, all_vacuous scale solver e sites)

pub unfed_true : (scale : ℕ) (network : Network) (order : ℕ) (list : List ExactInjection) (sites : List Site) → is_unfed network list ≡ true → IsTrueSolver scale (solver_of scale network order list) order list sites
unfed_true scale network order list sites h =
    let none = unfound scale network order list h in
    let solver = solver_of scale network order list in
    record { solved = subst (λ f. IfSome f (λ _. IsSolvedFor scale solver order (injected list))) (sym none) tt; each = all_vacuous scale solver none sites }

-- ---- one thing for another
pub in_places : (P : ℕ → Network → List ExactInjection → List Site → Type 0) (s t : ℕ) (m n : Network) (xs ys : List ExactInjection) (us vs : List Site) → s ≡ t → m ≡ n → xs ≡ ys → us ≡ vs → P s m xs us → P t n ys vs
in_places P s t m n xs ys us vs a b c d h =
    let one : P s m xs vs = subst (λ (z : List Site). P s m xs z) d h in
    let two : P s m ys vs = subst (λ (z : List ExactInjection). P s m z vs) c one in
    let three : P s n ys vs = subst (λ (z : Network). P s z ys vs) b two in
    subst (λ (z : ℕ). P z n ys vs) a three

pub placed_cells : (study : Study) (rows : List Injection) (order : ℕ) (P : OrderCells → Type 0) (s : ℕ) (n : Network) (xs : List ExactInjection) (us : List Site)
    → s ≡ study.scale → n ≡ network_at study order → xs ≡ injections_of study rows order → us ≡ sites_of study → P (cells_with s (solver_of s n order xs) order us) → P (cells_of study rows order)
unfolding cells_of solver_at
placed_cells study rows order P s n xs us a b c d h =
    in_places (λ s n xs us. P (cells_with s (solver_of s n order xs) order us)) s study.scale n (network_at study order) xs (injections_of study rows order) us (sites_of study) a b c d h

pub placed_truth : {T E : Type 0} (r : Result T E) (study : Study) (rows : List Injection) (order : ℕ) (s : ℕ) (n : Network) (xs : List ExactInjection) (us : List Site)
    → s ≡ study.scale → n ≡ network_at study order → xs ≡ injections_of study rows order → us ≡ sites_of study
    → OnOk r (IsTrueSolver s (solver_of s n order xs) order xs us) → OnOk r (IsTrueOrder study rows order)
unfolding solver_at
placed_truth r study rows order s n xs us a b c d h =
    in_places (λ s n xs us. OnOk r (IsTrueSolver s (solver_of s n order xs) order xs us)) s study.scale n (network_at study order) xs (injections_of study rows order) us (sites_of study) a b c d h
