-- Exact states of a network at an order.
use Rattle.std.specs.Prelude.{◌≡◌, ℕ, suc, ◌+◌, ◌-◌, List, [], ◌∷◌, Some, slice_get}
use Rattle.exact_algebra.specs.Complex.{Complex, complex_numbers, real}
use Rattle.linear_systems.specs.Assembly.{where_equal}
use Rattle.linear_systems.specs.Linear.{dot}
use Rattle.network_theory.specs.Order.{Order}
use Rattle.network_theory.specs.Branch.{Tap, Law, Series, Shunt, Coupled3, Branch}
use Rattle.network_theory.specs.Network.{Network}
use Rattle.network_theory.specs.Live.{Live, Carries}
use Rattle.network_theory.specs.Impedance.{series_impedance, shunt_admittance, group_row}
open complex_numbers use {◌≈◌, nought, ◌⊕◌, ◌⊗◌}

-- a voltage of each node, and a current of each branch by its place in the list
pub record State : Type 0 where
  pub voltage : ℕ → Complex
  pub current : ℕ → Complex

-- the drop of a branch: the sum of c·V over its taps
abbrev pub drop : (ℕ → Complex) → List Tap → Complex
drop voltage [] = nought
drop voltage (t ∷ taps) = real t.ratio ⊗ voltage t.node ⊕ drop voltage taps

-- the sum of c·I over a branch's taps at node n
abbrev pub leaving_by : List Tap → Complex → ℕ → Complex
leaving_by [] current n = nought
leaving_by (t ∷ taps) current n = where_equal complex_numbers t.node n (real t.ratio ⊗ current) ⊕ leaving_by taps current n

-- the sum of c·I over all taps at node n
abbrev pub leaving : List Branch → (ℕ → Complex) → ℕ → Complex
leaving [] current n = nought
leaving (b ∷ branches) current n = leaving_by b.taps (current 0) n ⊕ leaving branches (λ i. current (suc i)) n

-- the law of the branch at place i
--     Series      Z·I = drop
--     Shunt      I = jhb·drop
--     Coupled3      Z_p1·I_1 + Z_p2·I_2 + Z_p3·I_3 = drop, the group's first branch being at i - place
abbrev pub KeepsLaw : Law → Order → (ℕ → Complex) → ℕ → Complex → Type 0
KeepsLaw (Series r k m x xc) h current i drop = series_impedance r k m x xc h ⊗ current i ≈ drop
KeepsLaw (Shunt b) h current i drop = current i ≈ shunt_admittance b h ⊗ drop
KeepsLaw (Coupled3 place c) h current i drop = dot complex_numbers (group_row c h place) (current (i - place) ∷ current (i - place + 1) ∷ current (i - place + 2) ∷ []) ≈ drop

-- an exact state at order h for the injection J of each live node
pub record IsExactState (network : Network) (h : Order) (J : ℕ → Complex) (s : State) : Type 0 where
  -- a node that isn't live has V = 0
  pub dead : (n : ℕ) → ¬ Live network n → s.voltage n ≈ nought
  -- each branch that has a live node, or whose group has one, keeps its law
  pub laws : (i : ℕ) (b : Branch) → slice_get network.branches i ≡ Some b → Carries network b → KeepsLaw b.law h s.current i (drop s.voltage b.taps)
  -- at each live node, the sum of c·I over all taps there is J
  pub sums : (n : ℕ) → Live network n → leaving network.branches s.current n ≈ J n

-- all voltages of live nodes, and all currents of branches that have one or whose group has one, are zero
pub record IsZeroState (network : Network) (s : State) : Type 0 where
  pub voltages : (n : ℕ) → Live network n → s.voltage n ≈ nought
  pub currents : (i : ℕ) (b : Branch) → slice_get network.branches i ≡ Some b → Carries network b → s.current i ≈ nought
