-- What elements add to the network of three phases, which are 0, 1 and 2 for a, b and c.
use Rattle.std.specs.Prelude.{ℕ, zero, suc, ◌+◌, ◌*◌, ℤ, pos, ◌*ℤ◌, List, [], ◌∷◌, ◌++◌, Option, Some, None}
use Rattle.network_theory.specs.Branch.{Law, Coupled3, Coupling, Branch}
use Rattle.study_model.specs.declared.words.Phase.{Phase}
use Rattle.study_model.specs.declared.words.Phase.TheVariants.{A, B, C}
use Rattle.element_parts.specs.declared.phases.Ohms.{Ohms}
use Rattle.element_parts.specs.PerUnit.{self_ohms, mutual_ohms, as_written, impedance_share}
use Rattle.element_parts.specs.Expansion.{to_ground, between}

-- the bus of a number, from 0, has a node for each phase: the first of them, for a
abbrev pub first_node : ℕ → ℕ
first_node bus = 3 * bus

-- the node of a phase of the bus, by the phase's number
abbrev pub phase_node : ℕ → ℕ → ℕ
phase_node bus phase = first_node bus + phase

-- the number of a phase
abbrev pub place_of : Phase → ℕ
place_of A = 0
place_of B = 1
place_of C = 2

-- the phase after a phase: b after a, c after b, a after c
abbrev pub next_phase : ℕ → ℕ
next_phase zero = 1
next_phase (suc zero) = 2
next_phase (suc (suc p)) = 0

-- a power as it is written; with a phase three times that
abbrev pub power_in : Option Phase → ℤ → ℤ
power_in None power = power
power_in (Some phase) power = pos 3 *ℤ power

-- what is added for a, b and c in turn
abbrev pub in_phases : (ℕ → List Branch) → List Branch
in_phases added = added 0 ++ (added 1 ++ added 2)

-- a branch from a node to ground, or to a neutral where there is one
abbrev pub to_return : Option ℕ → ℕ → Law → ℕ → Branch
to_return None node law owner = to_ground node law owner
to_return (Some neutral) node law owner = between node neutral law owner

-- a group of three, of a number: for each phase a branch from its node to ground, the first node being that of a
abbrev pub group_to_ground : ℕ → Coupling → ℕ → ℕ → List Branch
group_to_ground node values group owner = in_phases (λ p. record (to_ground (node + p) (Coupled3 p values) owner) { group = group } ∷ [])

-- the same, for each phase a branch between its nodes at two ends
abbrev pub group_between : ℕ → ℕ → Coupling → ℕ → ℕ → List Branch
group_between near far values group owner = in_phases (λ p. record (between (near + p) (far + p) (Coupled3 p values) owner) { group = group } ∷ [])

-- one of n equal parts of three coupled phases of r and x ohms in the positive and r0 and x0 ohms in the zero sequence, for a base of s MVA and v kV, with
-- the skin coefficients of their element: self (z0 + 2·z)/3, mutual (z0 - z)/3
abbrev pub coupling_share : Ohms → ℤ → ℤ → ℤ → ℤ → ℕ → Coupling
coupling_share ohms k m s v n =
    let x = impedance_share (mutual_ohms ohms.x ohms.x0) s v (3 * n) in
    record {
      self_r = impedance_share (self_ohms ohms.r ohms.r0) s v (3 * n);
      self_x = impedance_share (self_ohms ohms.x ohms.x0) s v (3 * n);
      mutual_r = impedance_share (mutual_ohms ohms.r ohms.r0) s v (3 * n);
      x_ab = x;
      x_bc = x;
      x_ca = x;
      k = as_written k;
      m = as_written m;
    }
