-- The terminal current of an element: what leaves a node into its branches.
use Rattle.std.specs.Prelude.{ℕ, suc, List, [], ◌∷◌, map, ◌==◌, if◌then◌else◌}
use Rattle.std.specs.List.{AllZip}
use Rattle.exact_algebra.specs.Complex.{Complex, complex_numbers}
use Rattle.complex_interval.specs.Rectangles.{Rectangle, EnclosesComplex}
use Rattle.network_theory.specs.Order.{Order, IsOrder}
use Rattle.network_theory.specs.Box.{LiesIn}
use Rattle.network_theory.specs.Branch.{Branch}
use Rattle.network_theory.specs.Network.{Network}
use Rattle.network_theory.specs.Between.{LiesBetween}
use Rattle.network_theory.specs.State.{State, IsExactState, leaving_by}
open complex_numbers use {nought, ◌⊕◌}

-- the sum of c·I over the taps at node n of the branches of an owner
abbrev pub terminal_of : ℕ → List Branch → (ℕ → Complex) → ℕ → Complex
terminal_of owner [] current n = nought
terminal_of owner (b ∷ branches) current n = (if b.owner == owner then leaving_by b.taps (current 0) n else nought) ⊕ terminal_of owner branches (λ i. current (suc i)) n

-- the rectangles hold the voltages of the nodes in their ordering
abbrev pub HoldsVoltages : ℕ → List ℕ → List Rectangle → (ℕ → Complex) → Type 0
HoldsVoltages s ordering volts voltage = AllZip (EnclosesComplex s) volts (map voltage ordering)

-- at every order of the box, for every network between the two: of each exact state whose voltages are held, the value holds the terminal current
abbrev pub HoldsTerminal : ℕ → Network → Network → List ℕ → ℕ → ℕ → ℕ → ℕ → List Rectangle → Rectangle → Type 0
HoldsTerminal s low high ordering lo hi owner node volts value =
    (h : Order) → IsOrder h → LiesIn h (record { lo = lo; hi = hi }) → (network : Network) → LiesBetween network low high
    → (J : ℕ → Complex) (state : State) → IsExactState network h J state → HoldsVoltages s ordering volts state.voltage
    → EnclosesComplex s value (terminal_of owner network.branches state.current node)
