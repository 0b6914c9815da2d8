-- The solution of an order, and the squares that follow from it.
use Rattle.std.specs.Prelude.{◌≡◌, ℕ, zero, suc, ◌*◌, ◌^◌, ◌≤◌, Bool, List, [], ◌∷◌, length, replicate, Option, Some, None, Result, Ok, Err, slice_get, slice_set, if◌then◌else◌}
use Rattle.std.specs.Option.{ForSome}
use Rattle.complex_interval.specs.Ends.{range_ends}
use Rattle.complex_interval.specs.Rectangles.{Rectangle, add_rectangles}
use Rattle.network_theory.specs.Network.{Network, IsWhole}
use Rattle.network_theory.specs.Live.{Live}
use Rattle.network_theory.specs.Reach.{is_live}
use Rattle.plain_elimination.specs.declared.failure.Failure.{Failure}
use Rattle.plain_elimination.specs.Matrix.{Square, nought_rectangle}
use Rattle.plain_elimination.specs.Rectangles.{solve_rectangles}
use Rattle.sparse_rows.specs.Bench.{Places}
use Rattle.node_injection.specs.Injected.{ExactInjection}
use Rattle.admittance_box.specs.Assembled.{Assembled}
use Rattle.admittance_box.specs.BoxMatrix.{box_matrix}
use Rattle.admittance_box.specs.Current.{terminal_current}
use Rattle.admittance_box.specs.HeldMatrix.{CanAssemble}
use Rattle.admittance_box.specs.Pattern.{IsPattern}
use Rattle.admittance_box.specs.Places.{place_of, node_ordering}
use Rattle.admittance_box.specs.Steps.{◌>>=◌}
use Rattle.distortion_bounds.specs.Squares.{squares_of}
use Rattle.distortion_bounds.specs.declared.solved.Solved.{Solved}
use Rattle.distortion_bounds.specs.declared.solved.Solved.TheVariants.{Done, OutOfRange, InjectionOutOfRange, Failed}
use Rattle.distortion_bounds.specs.declared.squares.Squares.{Squares}

-- ---- the nodes
-- of the numbers below a count, the greatest one in the set
abbrev pub last_in : (ℕ → Bool) → ℕ → ℕ
last_in set zero = zero
last_in set (suc n) = if set n then n else last_in set n

-- the live node of the greatest number, which is taken as the driven one
abbrev pub last_live : Network → ℕ
last_live network = last_in (is_live network) network.nodes

-- the ordering of the live nodes with that one last
unfoldable pub solving_order : Network → List ℕ
solving_order network = node_ordering network (is_live network) (last_live network)

-- ---- the solution
-- a value taken further, or the answer in place of it
abbrev pub or_answer : {X Y : Type 0} → Result X Solved → (X → Result Y Solved) → Result Y Solved
or_answer (Ok x) further = further x
or_answer (Err answer) further = Err answer

-- the right sides with the current of an injection at its node
abbrev pub with_injection : ℕ → List ℕ → ExactInjection → List Rectangle → Option (List Rectangle)
with_injection s ordering at right = do
  re ← range_ends s at.re at.re
  im ← range_ends s at.im at.im
  place ← place_of ordering at.node
  before ← slice_get right place
  sum ← add_rectangles before (record { re = re; im = im })
  Some (slice_set right place sum)

-- a value taken further, or the answer of one that is out of range at this place of the list
abbrev pub or_place : {X Y : Type 0} → ℕ → Option X → (X → Result Y Solved) → Result Y Solved
or_place place None further = Err (InjectionOutOfRange place)
or_place place (Some x) further = further x

-- so with each injection in order, from this place of the list on
abbrev pub with_injections : ℕ → List ℕ → ℕ → List ExactInjection → List Rectangle → Result (List Rectangle) Solved
with_injections s ordering place [] right = Ok right
with_injections s ordering place (at ∷ list) right = or_place place (with_injection s ordering at right) (with_injections s ordering (suc place) list)

-- the right sides of an order: the sum at each node, or the first place of the list, from 1, that leaves no value
abbrev pub right_sides : ℕ → List ℕ → List ExactInjection → Result (List Rectangle) Solved
right_sides s ordering list = with_injections s ordering 1 list (replicate (length ordering) nought_rectangle)

-- the solution, or the failure
abbrev pub or_failed : Result (List Rectangle) Failure → Result (List Rectangle) Solved
or_failed (Ok volts) = Ok volts
or_failed (Err failure) = Err (Failed failure)

-- solved with these right sides, or the branch that is out of range
abbrev pub solved_rows : ℕ → List Rectangle → Result (List (List Rectangle)) ℕ → Result (List Rectangle) Solved
solved_rows s right (Ok rows) = or_failed (solve_rectangles s rows right)
solved_rows s right (Err branch) = Err (OutOfRange branch)

-- a whole order in micro-orders
abbrev pub micro_orders : ℕ → ℕ
micro_orders order = order * 10 ^ 6

-- the voltages of the live nodes, in their ordering, at a whole order for these injections; or what the answer is in place of them
unfoldable pub order_solution : ℕ → Network → List ℕ → ℕ → List ExactInjection → Result (List Rectangle) Solved
order_solution s network ordering order list =
    or_answer (right_sides s ordering list) (λ right. solved_rows s right (box_matrix s network network ordering (micro_orders order) (micro_orders order)))

-- the answer
abbrev pub answer_of : Result (List Rectangle) Solved → Solved
answer_of (Ok volts) = Done
answer_of (Err answer) = answer

-- ---- what is kept of it
-- an order, and the voltages of the live nodes in their ordering
pub record Solution : Type 0 where
  pub order : ℕ
  pub volts : List Rectangle

-- the solution, if there is one
abbrev pub solution_of : ℕ → Result (List Rectangle) Solved → Option Solution
solution_of order (Ok volts) = Some (record { order = order; volts = volts })
solution_of order (Err answer) = None

-- a network with the ordering of its live nodes, and what the last solve found
pub record Solver : Type 0 where
  pub network : Network
  pub ordering : List ℕ
  pub found : Option Solution

-- a solver of a network that has solved nothing yet
abbrev pub new_solver : Network → Solver
new_solver network = record { network = network; ordering = solving_order network; found = None }

-- what a solver keeps: one whole network for which its assembly is meant, a matrix, a bench and a column of its size
pub record IsReady (a : Assembled) (matrix : Square) (bench : Places) (column : List Rectangle) (order : Option ℕ) : Type 0 where
  pub whole : IsWhole a.low
  pub alone : a.high ≡ a.low
  pub ready : CanAssemble a.low a.low a.driven a.ordering
  pub size : matrix.size ≡ length a.ordering
  pub pattern : IsPattern a.ordering a.low.branches bench.size bench.places
  pub sides : length column ≡ length a.ordering
  pub orders : ForSome order (λ n. (1 ≤ n) × (n ≤ 50))

-- some node is live
pub record HasLiveNode (network : Network) : Type 0 where
  pub node : ℕ
  pub live : Live network node

-- ---- squares
-- of the voltage of a node; none where there is no solution or the node isn't live
abbrev pub voltage_squares : List ℕ → Option Solution → ℕ → Option Squares
voltage_squares ordering found node = do
  solution ← found
  place ← place_of ordering node
  v ← slice_get solution.volts place
  Some (squares_of v)

-- of the terminal current of an element at a live node
abbrev pub current_squares : ℕ → Network → List ℕ → Option Solution → ℕ → ℕ → Option Squares
current_squares s network ordering found owner node = do
  solution ← found
  place ← place_of ordering node
  i ← terminal_current s network network ordering (micro_orders solution.order) (micro_orders solution.order) owner node solution.volts
  Some (squares_of i)
