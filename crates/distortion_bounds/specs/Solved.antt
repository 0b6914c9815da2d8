-- What a solution says of the exact state of an order.
use Rattle.std.specs.Prelude.{◌≡◌, ℕ, List, Option, Some, IfSome}
use Rattle.exact_algebra.specs.Complex.{Complex, square_size}
use Rattle.complex_interval.specs.Rectangles.{Rectangle}
use Rattle.network_theory.specs.Order.{Order}
use Rattle.network_theory.specs.State.{State, IsExactState}
use Rattle.network_theory.specs.Laws.{HasOneState}
use Rattle.admittance_box.specs.Terminal.{HoldsVoltages, terminal_of}
use Rattle.distortion_bounds.specs.declared.squares.Squares.{Squares}
use Rattle.distortion_bounds.specs.Solver.{Solution, Solver}
use Rattle.distortion_bounds.specs.Squares.{HoldsSquare}

-- a whole order
abbrev pub whole_order : ℕ → Order
whole_order order = record { n = order; d = 1 }

-- the exact state of the order for the injection J exists and is the only one, and the solution holds its voltages
pub record IsSolvedFor (s : ℕ) (solver : Solver) (order : ℕ) (J : ℕ → Complex) : Type 0 where
  pub volts : List Rectangle
  pub found : solver.found ≡ Some (record { order = order; volts = volts })
  pub one : HasOneState solver.network (whole_order order) J
  pub held : HoldsVoltages s solver.ordering volts one.state.voltage

-- of voltages that the solution holds, the square of the size of a node's lies between
abbrev pub HoldsVoltageSquare : ℕ → Solver → ℕ → Option Squares → Type 0
HoldsVoltageSquare s solver node squares =
    (solution : Solution) → solver.found ≡ Some solution → (voltage : ℕ → Complex) → HoldsVoltages s solver.ordering solution.volts voltage
    → IfSome squares (λ q. HoldsSquare s q (square_size (voltage node)))

-- of an exact state of the order whose voltages the solution holds, the square of the size of a terminal current lies between
abbrev pub HoldsCurrentSquare : ℕ → Solver → ℕ → ℕ → Option Squares → Type 0
HoldsCurrentSquare s solver owner node squares =
    (solution : Solution) → solver.found ≡ Some solution → (J : ℕ → Complex) (state : State) → IsExactState solver.network (whole_order solution.order) J state
    → HoldsVoltages s solver.ordering solution.volts state.voltage
    → IfSome squares (λ q. HoldsSquare s q (square_size (terminal_of owner solver.network.branches state.current node)))
