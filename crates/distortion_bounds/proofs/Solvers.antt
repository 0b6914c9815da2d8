-- What a solver keeps, and what its solutions say.
use Rattle.std.proofs.Common.{◌≡◌, ◌∙◌, ℕ, ◌≤◌, List, [], length, refl, sym, subst, ap, ap₂, arith, Option, Ok}
use Rattle.std.specs.Option.{option_map}
use Rattle.std.specs.Prelude.{Some, None, slice_get}
use Rattle.exact_algebra.specs.Complex.{Complex, square_size}
use Rattle.complex_interval.specs.Rectangles.{Rectangle, EnclosesComplex}
use Rattle.network_theory.specs.Network.{Network, IsWhole}
use Rattle.network_theory.specs.Live.{Live}
use Rattle.network_theory.specs.State.{IsExactState}
use Rattle.network_theory.specs.Between.{LiesBetween}
use Rattle.network_theory.specs.Box.{LiesIn}
use Rattle.network_theory.proofs.More.{between_itself}
use Rattle.plain_elimination.specs.Matrix.{Square}
use Rattle.sparse_rows.specs.Bench.{Places}
use Rattle.node_injection.specs.Injected.{ExactInjection, injected}
use Rattle.admittance_box.specs.Assembled.{Assembled, IsMade}
use Rattle.admittance_box.specs.HeldMatrix.{CanAssemble}
use Rattle.admittance_box.specs.Pattern.{IsPattern}
use Rattle.admittance_box.specs.Places.{place_of, IsNodeOrdering}
use Rattle.admittance_box.specs.Terminal.{HoldsVoltages, HoldsTerminal, terminal_of}
use Rattle.admittance_box.proofs.HeldCurrents.{voltage_at}
use Rattle.admittance_box.proofs.NodeOrderings.{lists_live}
use Rattle.admittance_box.proofs.PairPlaces.{place_live}
use Rattle.distortion_bounds.specs.declared.squares.Squares.{Squares}
use Rattle.distortion_bounds.specs.Squares.{HoldsSquare}
use Rattle.distortion_bounds.specs.Solved.{whole_order, IsSolvedFor, HoldsVoltageSquare, HoldsCurrentSquare}
use Rattle.distortion_bounds.specs.Solver.{Solver, Solution, IsReady, last_live, new_solver, order_solution, micro_orders}
use Rattle.distortion_bounds.proofs.Orders.{ordering_is}
use Rattle.distortion_bounds.proofs.SolvedStates.{one_state}

-- ---- a new solver
solver_with : Network → List ℕ → Solver
solver_with network ordering = record { network = network; ordering = ordering; found = None }

pub solver_is : (network : Network) (driven : ℕ) (a : Assembled) → IsWhole network → driven ≡ last_live network → IsMade network network driven a → record { network = a.low; ordering = a.ordering; found = None } ≡ new_solver network
unfolding solver_with
solver_is network driven a whole e m =
    ap₂ solver_with m.from_low (ordering_is network a.driven a.ordering whole (m.at ∙ e) (subst (λ n. IsNodeOrdering n a.driven a.ordering) m.from_low m.ready.ordered))

pub ready_by : (network : Network) (driven : ℕ) (a : Assembled) (matrix : Square) (bench : Places) (column : List Rectangle) → IsWhole network → IsMade network network driven a → matrix.size ≡ length a.ordering → IsPattern a.ordering a.low.branches bench.size bench.places
    → length column ≡ length a.ordering → IsReady a matrix bench column None
ready_by network driven a matrix bench column whole m size pattern sides =
    let same : a.high ≡ a.low = m.to_high ∙ sym m.from_low in
    record {
      whole = subst IsWhole (sym m.from_low) whole;
      alone = same;
      ready = subst (λ n. CanAssemble a.low n a.driven a.ordering) same m.ready;
      size = size;
      pattern = pattern;
      sides = sides;
      orders = λ x f. absurd cc;
    }

-- ---- a solution
-- what contracts see of a solver of this assembly, with this column and the order that it was solved for
abbrev pub solver_of : Assembled → List Rectangle → Option ℕ → Solver
solver_of a column kept = record { network = a.low; ordering = a.ordering; found = option_map (λ order. record { order = order; volts = column }) kept }

pub solved_for : (s : ℕ) (a b : Assembled) (matrix : Square) (bench : Places) (column : List Rectangle) (before : Option ℕ) (order : ℕ) (list : List ExactInjection) (volts : List Rectangle) → IsReady a matrix bench column before → 2 ≤ order
    → Ok volts ≡ order_solution s a.low a.ordering order list → b ≡ a → IsSolvedFor s (solver_of b volts (Some order)) order (injected list)
solved_for s a b matrix bench column before order list volts ready some e is =
    let it = one_state s a.low a.driven a.ordering order list volts ready.whole ready.ready (omega (arith, some)) (sym e) in
    subst (λ x. IsSolvedFor s (solver_of x volts (Some order)) order (injected list)) (sym is) (record { volts = volts; found = refl; one = it.one; held = it.held })

-- ---- nodes
pub live_at : (a : Assembled) (matrix : Square) (bench : Places) (column : List Rectangle) (order : Option ℕ) (node place : ℕ) → IsReady a matrix bench column order → Some place ≡ place_of a.ordering node → Live a.low node
live_at a matrix bench column order node place ready e = (place_live a.low a.ordering node (Some place) (lists_live a.low a.driven a.ordering ready.whole ready.ready.driven_is_live ready.ready.ordered) e).0 refl

-- a rectangle and its squares
abbrev HoldsEach : ℕ → Rectangle → Squares → Type 0
HoldsEach s v q = (z : Complex) → EnclosesComplex s v z → HoldsSquare s q (square_size z)

abbrev order_in : Option Solution → ℕ
order_in (Some x) = x.order
order_in None = 0

abbrev volts_in : Option Solution → List Rectangle
volts_in (Some x) = x.volts
volts_in None = []

taken : (order : ℕ) (column : List Rectangle) (solution : Solution) → Some (record { order = order; volts = column }) ≡ Some solution → (order ≡ solution.order) × (column ≡ solution.volts)
taken order column solution e = (ap order_in e, ap volts_in e)

pub voltage_holds : (s : ℕ) (a : Assembled) (column : List Rectangle) (kept : Option ℕ) (order node place : ℕ) (v : Rectangle) (q : Squares) → kept ≡ Some order → Some place ≡ place_of a.ordering node → slice_get column place ≡ Some v → HoldsEach s v q
    → HoldsVoltageSquare s (solver_of a column kept) node (Some q)
voltage_holds s a column kept order node place v q k p g each = subst (λ o. HoldsVoltageSquare s (solver_of a column o) node (Some q)) (sym k) there
  where
    there : HoldsVoltageSquare s (solver_of a column (Some order)) node (Some q)
    there solution e V held = each (V node) (voltage_at s V a.ordering column node place v (subst (λ volts. HoldsVoltages s a.ordering volts V) (sym (taken order column solution e).1) held) (sym p) g)

pub current_holds : (s : ℕ) (a : Assembled) (matrix : Square) (bench : Places) (column : List Rectangle) (kept : Option ℕ) (order owner node : ℕ) (i : Rectangle) (q : Squares) → IsReady a matrix bench column kept → kept ≡ Some order
    → HoldsTerminal s a.low a.high a.ordering (micro_orders order) (micro_orders order) owner node column i → HoldsEach s i q → HoldsCurrentSquare s (solver_of a column kept) owner node (Some q)
current_holds s a matrix bench column kept order owner node i q ready k terminal each = subst (λ o. HoldsCurrentSquare s (solver_of a column o) owner node (Some q)) (sym k) there
  where
    inside : LiesIn (whole_order order) (record { lo = micro_orders order; hi = micro_orders order })
    inside = record { low = omega arith; high = omega arith }

    there : HoldsCurrentSquare s (solver_of a column (Some order)) owner node (Some q)
    there solution e J state exact held =
        let (n, volts) = taken order column solution e in
        each (terminal_of owner a.low.branches state.current node)
        (terminal (whole_order order) (record { n = (ready.orders order k).0; d = omega arith }) inside a.low (subst (λ h. LiesBetween a.low a.low h) (sym ready.alone) (between_itself a.low ready.whole)) J state
        (subst (λ m. IsExactState a.low (whole_order m) J state) (sym n) exact) (subst (λ l. HoldsVoltages s a.ordering l state.voltage) (sym volts) held))
