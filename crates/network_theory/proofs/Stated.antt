-- The laws of specs/Laws.antt.
use Rattle.std.proofs.Common.{ℕ, [], ◌∷◌, map, length}
use Rattle.exact_algebra.specs.Complex.{Complex, complex_numbers}
use Rattle.exact_algebra.proofs.Reader.{reads, linear, weigh, none_left}
use Rattle.network_theory.specs.Order.{Order}
use Rattle.network_theory.specs.Network.{Network}
use Rattle.network_theory.specs.Live.{grounded, joined}
use Rattle.network_theory.specs.State.{State, IsExactState}
use Rattle.network_theory.specs.DrivingPoint.{HasOnlyZeroState}
use Rattle.network_theory.specs.Laws.{LiveIsLeast, PlainResistance, OneImpedance, ReducedImpedance, Cleared, Peak, InjectiveNodal, SolvedState, StateSolves, SameState}
use Rattle.network_theory.proofs.Numbers.{R}
use Rattle.network_theory.proofs.Only as O
use Rattle.network_theory.proofs.OneBus as U
use Rattle.network_theory.proofs.Reduced as K
use Rattle.network_theory.proofs.Bridge as B
use Rattle.network_theory.proofs.Driven as D
open complex_numbers use {◌≈◌, nought, unit, ◌⊕◌, minus}

pub live_is_least : LiveIsLeast
live_is_least network set c n (grounded b t k e) = c.grounded b t k e
live_is_least network set c n (joined b t u k p q l) = c.joined b t u k p q (live_is_least network set c t.node l)

pub plain_resistance : PlainResistance
plain_resistance = U.resistance_plain

pub one_impedance : OneImpedance
one_impedance = O.only_impedance

pub reduced_impedance : ReducedImpedance
reduced_impedance = K.reduced_impedance

pub cleared : Cleared
cleared = K.cleared

pub peak : Peak
peak = K.peak

pub injective_nodal : InjectiveNodal
injective_nodal network h parts ordering rows S = (D.injective_matrix network h parts ordering rows S, D.only_zero_state network h parts ordering rows S)

pub state_solves : StateSolves
state_solves network h J parts ordering rows S s x = B.state_solves network h parts ordering rows S J s x

zero_difference : (u v : Complex) → u ⊕ minus v ≈ nought → u ≈ v
zero_difference u v h = linear R (u ∷ v ∷ []) (weigh R unit h) (search reads depth 40 fits 4000) none_left

-- two exact states for one injection agree, where the injection 0 has only the zero state
pub only_state : (network : Network) (h : Order) (J : ℕ → Complex) → HasOnlyZeroState network h → (s t : State) → IsExactState network h J s → IsExactState network h J t → SameState network s t
only_state network h J o s t p q =
    let z = o.zero _ (O.state-less network h J s t p q) in
    record { voltages = λ n l. zero_difference _ _ (z.voltages n l); currents = λ i b e c. zero_difference _ _ (z.currents i b e c) }

pub solved_state : SolvedState
solved_state network h J parts ordering rows S one =
    let o = D.only_zero_state network h parts ordering rows S (D.injective_from_one (length ordering) rows (map J ordering) one) in
    let x = D.solved_state network h parts ordering rows S J one.solution one.count one.solves in
    record { state = _; exact = x; only = λ s y. only_state network h J o s _ y x; only_zero = o }
