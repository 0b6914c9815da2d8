-- The solution of an order holds the voltages of the one exact state.
use Rattle.std.proofs.Common.{◌≡◌, ◌∙◌, ℕ, ◌≤◌, List, [], ◌∷◌, length, map, refl, sym, ap, arith, Ok, Err, Result}
use Rattle.std.specs.Prelude.{replicate}
use Rattle.std.specs.List.{AllZip}
use Rattle.exact_algebra.specs.Complex.{Complex, complex_numbers}
use Rattle.exact_algebra.proofs.Complexes.{complex_field}
use Rattle.complex_interval.specs.Rectangles.{Rectangle, EnclosesComplex}
use Rattle.network_theory.specs.Order.{Order}
use Rattle.network_theory.specs.Box.{LiesIn}
use Rattle.network_theory.specs.Network.{Network, IsWhole}
use Rattle.network_theory.specs.Laws.{HasOneState}
use Rattle.network_theory.proofs.Bridge.{length-map}
use Rattle.network_theory.proofs.Driven.{nodal_square}
use Rattle.network_theory.proofs.More.{between_itself}
use Rattle.network_theory.proofs.Stated.{solved_state, state_solves}
use Rattle.plain_elimination.specs.declared.failure.Failure.{Failure}
use Rattle.plain_elimination.specs.Matrix.{nought_rectangle}
use Rattle.plain_elimination.specs.Rectangles.{solve_rectangles}
use Rattle.plain_elimination.proofs.Rectangles.{solution_holds}
use Rattle.node_injection.specs.Injected.{ExactInjection, injected}
use Rattle.admittance_box.specs.BoxMatrix.{box_matrix}
use Rattle.admittance_box.specs.HeldMatrix.{CanAssemble, HoldsNodal}
use Rattle.admittance_box.specs.Terminal.{HoldsVoltages}
use Rattle.admittance_box.proofs.HeldMatrices.{box_matrix_holds}
use Rattle.admittance_box.proofs.HeldPairs.{along}
use Rattle.admittance_box.proofs.NodeOrderings.{lists_live}
use Rattle.distortion_bounds.specs.Solved.{whole_order}
use Rattle.distortion_bounds.specs.Solver.{or_answer, or_failed, right_sides, solved_rows, micro_orders, order_solution}
use Rattle.distortion_bounds.specs.declared.solved.Solved.{Solved}
use Rattle.distortion_bounds.specs.declared.solved.Solved.TheVariants.{Done, OutOfRange, Failed}
use Rattle.distortion_bounds.proofs.RightSides.{right_held, zip_length, never_done}
open complex_numbers use {◌≈◌}

-- what a solution is: right sides, rows and what solves them
record AreSolved (s : ℕ) (network : Network) (ordering : List ℕ) (order : ℕ) (list : List ExactInjection) (volts : List Rectangle) : Type 0 where
  right : List Rectangle
  sides : right_sides s ordering list ≡ Ok right
  rows : List (List Rectangle)
  filled : box_matrix s network network ordering (micro_orders order) (micro_orders order) ≡ Ok rows
  solved : solve_rectangles s rows right ≡ Ok volts

are_solved : (s : ℕ) (network : Network) (ordering : List ℕ) (order : ℕ) (list : List ExactInjection) (volts : List Rectangle) → order_solution s network ordering order list ≡ Ok volts → AreSolved s network ordering order list volts
unfolding order_solution
are_solved s network ordering order list volts e = sided (right_sides s ordering list) refl e
  where
    finished : (right : List Rectangle) (rows : List (List Rectangle)) → right_sides s ordering list ≡ Ok right → box_matrix s network network ordering (micro_orders order) (micro_orders order) ≡ Ok rows
        → (r : Result (List Rectangle) Failure) → solve_rectangles s rows right ≡ r → or_failed r ≡ Ok volts → AreSolved s network ordering order list volts
    finished right rows p q (Ok x) i f = let is : x ≡ volts = grind arith in record { right = right; sides = p; rows = rows; filled = q; solved = i ∙ ap Ok is }
    finished right rows p q (Err failure) i f = absurd cc

    with_rows : (right : List Rectangle) → right_sides s ordering list ≡ Ok right → (r : Result (List (List Rectangle)) ℕ) → box_matrix s network network ordering (micro_orders order) (micro_orders order) ≡ r → solved_rows s right r ≡ Ok volts → AreSolved s network ordering order list volts
    with_rows right p (Ok rows) q f = finished right rows p q (solve_rectangles s rows right) refl f
    with_rows right p (Err branch) q f = absurd cc

    sided : (r : Result (List Rectangle) Solved) → right_sides s ordering list ≡ r
        → or_answer r (λ right. solved_rows s right (box_matrix s network network ordering (micro_orders order) (micro_orders order))) ≡ Ok volts → AreSolved s network ordering order list volts
    sided (Ok right) p f = with_rows right p (box_matrix s network network ordering (micro_orders order) (micro_orders order)) refl f
    sided (Err answer) p f = absurd cc

-- what holds each of a list holds each equal one
equal_held : (s : ℕ) (volts : List Rectangle) (xs ys : List Complex) → AllZip ◌≈◌ xs ys → AllZip (EnclosesComplex s) volts ys → AllZip (EnclosesComplex s) volts xs
equal_held s [] [] [] e h = tt
equal_held s [] [] (y ∷ ys) e h = absurd h
equal_held s [] (x ∷ xs) [] e h = absurd e
equal_held s [] (x ∷ xs) (y ∷ ys) e h = absurd h
equal_held s (v ∷ volts) [] [] e h = absurd h
equal_held s (v ∷ volts) [] (y ∷ ys) e h = absurd e
equal_held s (v ∷ volts) (x ∷ xs) [] e h = absurd e
equal_held s (v ∷ volts) (x ∷ xs) (y ∷ ys) e h = (along s v y x (complex_field.back e.0) h.0, equal_held s volts xs ys e.1 h.1)

-- the one exact state, and that its voltages are held
pub record HoldsOneState (s : ℕ) (network : Network) (ordering : List ℕ) (order : ℕ) (J : ℕ → Complex) (volts : List Rectangle) : Type 0 where
  pub one : HasOneState network (whole_order order) J
  pub held : HoldsVoltages s ordering volts one.state.voltage

pub one_state : (s : ℕ) (network : Network) (driven : ℕ) (ordering : List ℕ) (order : ℕ) (list : List ExactInjection) (volts : List Rectangle) → IsWhole network → CanAssemble network network driven ordering → 1 ≤ order
    → order_solution s network ordering order list ≡ Ok volts → HoldsOneState s network ordering order (injected list) volts
one_state s network driven ordering order list volts whole can some e =
    let it = are_solved s network ordering order list volts e in
    let h : Order = whole_order order in
    let nodal : HoldsNodal s network h driven ordering it.rows =
    box_matrix_holds s network network driven ordering can (micro_orders order) (micro_orders order) it.rows it.filled h (record { n = some; d = omega arith }) inside network (between_itself network whole) in
    let listed = lists_live network driven ordering whole can.driven_is_live can.ordered in
    let right = right_held s ordering list it.right listed.distinct it.sides in
    let solved = solution_holds s (length ordering) it.rows it.right volts nodal.rows (map (injected list) ordering) it.solved (nodal_square network h nodal.parts ordering nodal.rows nodal.system) nodal.held right
    (zip_length (EnclosesComplex s) (injected list) it.right ordering right) in
    let one = solved_state network h (injected list) nodal.parts ordering nodal.rows nodal.system solved.one in
    let solves = state_solves network h (injected list) nodal.parts ordering nodal.rows nodal.system one.state one.exact in
    record {
      one = one;
      held = equal_held s volts (map one.state.voltage ordering) solved.one.solution (solved.one.only (map one.state.voltage ordering) (length-map one.state.voltage ordering) solves) solved.held;
    }
  where
    inside : LiesIn (whole_order order) (record { lo = micro_orders order; hi = micro_orders order })
    inside = record { low = omega arith; high = omega arith }

-- ---- the answer, step by step
pub solution_err : (s : ℕ) (network : Network) (ordering : List ℕ) (order : ℕ) (list : List ExactInjection) (answer : Solved) → Err answer ≡ right_sides s ordering list → Err answer ≡ order_solution s network ordering order list
unfolding order_solution
solution_err s network ordering order list answer e = ap (λ r. or_answer r (λ right. solved_rows s right (box_matrix s network network ordering (micro_orders order) (micro_orders order)))) e

pub solution_ok : (s : ℕ) (network : Network) (ordering : List ℕ) (order : ℕ) (list : List ExactInjection) (right : List Rectangle) (result : Result (List Rectangle) Solved) → Ok right ≡ right_sides s ordering list
    → result ≡ solved_rows s right (box_matrix s network network ordering (micro_orders order) (micro_orders order)) → result ≡ order_solution s network ordering order list
unfolding order_solution
solution_ok s network ordering order list right result e f = f ∙ ap (λ r. or_answer r (λ x. solved_rows s x (box_matrix s network network ordering (micro_orders order) (micro_orders order)))) e

-- an answer in place of a solution isn't `Done`
pub never_done_without : (s : ℕ) (network : Network) (ordering : List ℕ) (order : ℕ) (list : List ExactInjection) (answer : Solved) → Err answer ≡ order_solution s network ordering order list → answer ≡ Done → ⊥
unfolding order_solution
never_done_without s network ordering order list answer e d = sided (right_sides s ordering list) refl (sym e)
  where
    finished : (r : Result (List Rectangle) Failure) → or_failed r ≡ Err answer → ⊥
    finished (Ok x) f = cc
    finished (Err failure) f = let is : Failed failure ≡ answer = grind arith in (let at_once : Failed failure ≡ Done = is ∙ d in cc)

    with_rows : (right : List Rectangle) (r : Result (List (List Rectangle)) ℕ) → solved_rows s right r ≡ Err answer → ⊥
    with_rows right (Ok rows) f = finished (solve_rectangles s rows right) f
    with_rows right (Err branch) f = let is : OutOfRange branch ≡ answer = grind arith in (let at_once : OutOfRange branch ≡ Done = is ∙ d in cc)

    sided : (r : Result (List Rectangle) Solved) → right_sides s ordering list ≡ r
        → or_answer r (λ right. solved_rows s right (box_matrix s network network ordering (micro_orders order) (micro_orders order))) ≡ Err answer → ⊥
    sided (Ok right) p f = with_rows right (box_matrix s network network ordering (micro_orders order) (micro_orders order)) f
    sided (Err a) p f = let is : a ≡ answer = grind arith in never_done s ordering list 1 (replicate (length ordering) nought_rectangle) a p (is ∙ d)
