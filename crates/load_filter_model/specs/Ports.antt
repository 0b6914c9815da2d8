-- What loads, banks and filters are at a node: branches to ground or to a neutral, behind a capacitor to an inner node where they have one.
use Rattle.std.specs.Prelude.{ℕ, ◌+◌, ◌*◌, Bool, true, false, List, [], ◌∷◌, map, Option, Some, None}
use Rattle.network_theory.specs.Branch.{Law, Branch}
use Rattle.study_model.specs.declared.words.Phase.{Phase}
use Rattle.element_parts.specs.Expansion.{Expansion, between}
use Rattle.element_parts.specs.Phases.{phase_node, place_of, in_phases, to_return}

-- the law of the capacitor, where there is one, and those of the branches behind it
pub record Port : Type 0 where
  pub capacitor : Option Law
  pub laws : List Law

-- how many inner nodes it has
abbrev pub inner_nodes : Option Law → ℕ
inner_nodes None = 0
inner_nodes (Some capacitor) = 1

abbrev pub returning : Option ℕ → ℕ → List Law → ℕ → List Branch
returning neutral node laws owner = map (λ law. to_return neutral node law owner) laws

-- its branches at a node, where its inner node has the number `inner`
abbrev pub branches_behind : Option Law → Option ℕ → ℕ → ℕ → List Law → ℕ → List Branch
branches_behind None neutral node inner laws owner = returning neutral node laws owner
branches_behind (Some capacitor) neutral node inner laws owner = between node inner capacitor owner ∷ returning neutral inner laws owner

abbrev pub port_branches : Port → Option ℕ → ℕ → ℕ → ℕ → List Branch
port_branches port neutral node inner owner = branches_behind port.capacitor neutral node inner port.laws owner

-- at one node, to ground
abbrev pub at_node : Port → ℕ → ℕ → ℕ → Expansion
at_node port node next owner = record { inner = inner_nodes port.capacitor; branches = port_branches port None node next owner }

-- in each phase of a bus, where the phases' inner nodes are numbered from `next` on
abbrev pub in_each_phase : Port → Option ℕ → ℕ → ℕ → ℕ → List Branch
in_each_phase port neutral bus next owner = in_phases (λ p. port_branches port neutral (phase_node bus p) (next + p * inner_nodes port.capacitor) owner)

-- at the phases of a bus: to ground where grounded, else to one neutral, whose inner node comes first; with a phase in that phase alone, to ground
abbrev pub at_phases : Port → Bool → Option Phase → ℕ → ℕ → ℕ → Expansion
at_phases port grounded (Some phase) bus next owner = at_node port (phase_node bus (place_of phase)) next owner
at_phases port true None bus next owner = record { inner = 3 * inner_nodes port.capacitor; branches = in_each_phase port None bus next owner }
at_phases port false None bus next owner = record { inner = 1 + 3 * inner_nodes port.capacitor; branches = in_each_phase port (Some next) bus (next + 1) owner }

-- one branch
abbrev pub single : Law → Port
single law = record { capacitor = None; laws = law ∷ [] }
