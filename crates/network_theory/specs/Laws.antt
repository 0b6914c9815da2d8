-- The theory's laws, as contracts state them.
use Rattle.std.specs.Prelude.{◌≡◌, ◌<◌, ℕ, pos, ◌↔◌, Bool, IsTrue, List, [], ◌∷◌, map, length, get_or, Contains, Some, slice_get}
use Rattle.exact_algebra.specs.Ratio.{Ratio, ◌≈◌ as ◌≈ᵣ◌, ◌≼◌, times, whole, ◌≺◌}
use Rattle.exact_algebra.specs.Complex.{Complex, complex_numbers, square_size}
use Rattle.linear_systems.specs.Linear.{IsInjective, HasOneSolution, Solves}
use Rattle.network_theory.specs.Order.{Order}
use Rattle.network_theory.specs.Branch.{Tap, Coupling, Branch}
use Rattle.network_theory.specs.Network.{Network, IsWhole}
use Rattle.network_theory.specs.Between.{LiesBetween}
use Rattle.network_theory.specs.Live.{Live, HasLiveNode, Carries}
use Rattle.network_theory.specs.Impedance.{resistance}
use Rattle.network_theory.specs.State.{State, drop, IsExactState}
use Rattle.network_theory.specs.DrivingPoint.{IsDrivingPoint, HasOnlyZeroState, in_ohms}
use Rattle.network_theory.specs.Threshold.{Threshold, per_unit, IsWithin}
use Rattle.network_theory.specs.Admittance.{Part, branches_of, IsSplit, EachLivePart, HasAdmittances, IsGroupAdmittance, group_rows}
use Rattle.network_theory.specs.Current.{current_of}
use Rattle.network_theory.specs.Nodal.{IsNodalSystem, part_entry}
use Rattle.network_theory.specs.Reduced.{IsReducedTo}
use Rattle.network_theory.specs.Scanned.{IsClearedAt, IsPeakAt}
open complex_numbers use {◌≈◌, nought, unit, ◌⊗◌}

-- a set of nodes that has the node of each one-tap branch and, with one node of a branch, all its nodes
pub record IsClosed (network : Network) (set : ℕ → Bool) : Type 0 where
  pub grounded : (b : Branch) (t : Tap) → Contains network.branches b → b.taps ≡ t ∷ [] → IsTrue (set t.node)
  pub joined : (b : Branch) (t u : Tap) → Contains network.branches b → Contains b.taps t → Contains b.taps u → IsTrue (set t.node) → IsTrue (set u.node)

-- the live nodes are in every such set
abbrev pub LiveIsLeast : Type 0
LiveIsLeast = (network : Network) (set : ℕ → Bool) → IsClosed network set → (n : ℕ) → Live network n → IsTrue (set n)

-- km/(m + h²) counts as 0 where k is 0
abbrev pub PlainResistance : Type 0
PlainResistance = (r k m : Ratio) (h : Order) → k ≈ᵣ whole (pos 0) → resistance r k m h ≈ᵣ r

-- a network has one driving-point impedance at most
abbrev pub OneImpedance : Type 0
OneImpedance = (network : Network) (h : Order) (k : ℕ) (Z W : Complex) → IsDrivingPoint network h k Z → IsDrivingPoint network h k W → Z ≈ W

-- two states agree in the voltages of live nodes, and in the currents of branches that have one or whose group has one
pub record SameState (network : Network) (s t : State) : Type 0 where
  pub voltages : (n : ℕ) → Live network n → s.voltage n ≈ t.voltage n
  pub currents : (i : ℕ) (b : Branch) → slice_get network.branches i ≡ Some b → Carries network b → s.current i ≈ t.current i

-- there is exactly one exact state for the injection J
pub record HasOneState (network : Network) (h : Order) (J : ℕ → Complex) : Type 0 where
  pub state : State
  pub exact : IsExactState network h J state
  pub only : (s : State) → IsExactState network h J s → SameState network s state
  pub only_zero : HasOnlyZeroState network h

-- a complement y other than zero of the nodal matrix: the impedance exists, and is 1/y
abbrev pub ReducedImpedance : Type 0
ReducedImpedance = (network : Network) (h : Order) (k : ℕ) (y Z : Complex) → IsReducedTo network h k y → ¬ (y ≈ nought) → Z ⊗ y ≈ unit → IsDrivingPoint network h k Z

-- where 1 ≤ T²|y|², it exists and is within T
abbrev pub Cleared : Type 0
Cleared = (network : Network) (h : Order) (k : ℕ) (T : Ratio) (y : Complex) → IsReducedTo network h k y → whole (pos 1) ≼ times (times T T) (square_size y) → IsClearedAt network h k T

-- where T²|y|² < 1 and y isn't zero, it exists and is above T
abbrev pub Peak : Type 0
Peak = (network : Network) (h : Order) (k : ℕ) (T : Ratio) (y : Complex) → IsReducedTo network h k y → ¬ (y ≈ nought) → times (times T T) (square_size y) ≺ whole (pos 1) → IsPeakAt network h k T

-- the nodal matrix has only the zero solution exactly where the network has only the zero state
abbrev pub InjectiveNodal : Type 0
InjectiveNodal = (network : Network) (h : Order) (parts : List Part) (ordering : List ℕ) (rows : List (List Complex)) → IsNodalSystem network h parts ordering rows → HasOnlyZeroState network h ↔ IsInjective complex_numbers (length ordering) rows

-- where the nodal equations have one solution for J, the network has one exact state for J
abbrev pub SolvedState : Type 0
SolvedState = (network : Network) (h : Order) (J : ℕ → Complex) (parts : List Part) (ordering : List ℕ) (rows : List (List Complex)) → IsNodalSystem network h parts ordering rows → HasOneSolution complex_numbers (length ordering) rows (map J ordering) → HasOneState network h J

-- the voltages of an exact state, in the nodes' ordering, solve the nodal equations
abbrev pub StateSolves : Type 0
StateSolves = (network : Network) (h : Order) (J : ℕ → Complex) (parts : List Part) (ordering : List ℕ) (rows : List (List Complex)) → IsNodalSystem network h parts ordering rows → (s : State) → IsExactState network h J s → Solves complex_numbers rows (map s.voltage ordering) (map J ordering)

-- where each part of a network that has a live node has its admittances, so has each that carries a current
abbrev pub SplitAdmittances : Type 0
SplitAdmittances = (network : Network) (h : Order) (parts : List Part) → IsSplit network.branches parts → EachLivePart network h parts → HasAdmittances network h parts

-- the three solutions of a group's Z for the unit right sides, as columns, are its admittances
abbrev pub GroupAdmittance : Type 0
GroupAdmittance = (h : Order) (a b c : Coupling)
    (first : HasOneSolution complex_numbers 3 (group_rows a b c h) (unit ∷ nought ∷ nought ∷ []))
    (second : HasOneSolution complex_numbers 3 (group_rows a b c h) (nought ∷ unit ∷ nought ∷ []))
    (third : HasOneSolution complex_numbers 3 (group_rows a b c h) (nought ∷ nought ∷ unit ∷ []))
    → IsGroupAdmittance h a b c (λ p q. get_or (get_or (first.solution ∷ second.solution ∷ third.solution ∷ []) q []) p nought)

-- the currents of an exact state are those of the admittances at its drops
abbrev pub StateCurrents : Type 0
StateCurrents = (network : Network) (h : Order) (J : ℕ → Complex) (parts : List Part) → HasAdmittances network h parts → (s : State) → IsExactState network h J s
    → (i : ℕ) (b : Branch) → slice_get network.branches i ≡ Some b → Carries network b → s.current i ≈ current_of parts (λ o. drop s.voltage o.taps) i

-- a part without a live node adds nothing to the entries of live nodes
abbrev pub DeadPart : Type 0
DeadPart = (network : Network) (part : Part) → ((b : Branch) → Contains (branches_of part) b → ¬ HasLiveNode network b) → (n n' : ℕ) → Live network n → part_entry part n n' ≈ nought

-- a whole network lies between itself and itself
abbrev pub BetweenItself : Type 0
BetweenItself = (network : Network) → IsWhole network → LiesBetween network network network

-- the live nodes of a whole network are nodes of it
abbrev pub LiveIsNode : Type 0
LiveIsNode = (network : Network) → IsWhole network → (n : ℕ) → Live network n → n < network.nodes

-- within, per unit, is at most the threshold in ohms
abbrev pub WithinOhms : Type 0
WithinOhms = (threshold : Threshold) (h : Order) (kv mva : Ratio) (Z : Complex) → ¬ (kv ≈ᵣ whole (pos 0)) → ¬ (mva ≈ᵣ whole (pos 0)) → IsWithin (per_unit threshold kv mva h) Z ↔ (square_size (in_ohms kv mva Z) ≼ times (threshold h) (threshold h))
