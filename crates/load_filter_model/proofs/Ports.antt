-- The branches of a port of sound laws are sound.
use Rattle.std.proofs.Common.{ℕ, ◌+◌, ◌*◌, ◌≤◌, ◌<◌, Bool, true, false, List, arith}
use Rattle.std.specs.Prelude.{Option, Some, None}
use Rattle.network_theory.specs.Branch.{Law}
use Rattle.net_branch.proofs.Wholes.{each_append}
use Rattle.study_model.specs.declared.words.Phase.{Phase}
use Rattle.study_model.specs.declared.words.Phase.TheVariants.{A, B, C}
use Rattle.element_parts.specs.Phases.{first_node, phase_node, place_of}
use Rattle.element_parts.proofs.Sound.{IsSoundLaw, AreSoundLaws, IsSoundBranch, AreSound, IsSound, sound_between, sound_to_grounds, sound_betweens}
use Rattle.load_filter_model.specs.Ports.{Port, inner_nodes, returning, branches_behind, port_branches, at_node, in_each_phase, at_phases}

abbrev pub IsSoundCapacitor : Option Law → Type 0
IsSoundCapacitor None = Unit {0}
IsSoundCapacitor (Some law) = IsSoundLaw law

pub record IsSoundPort (port : Port) : Type 0 where
  pub capacitor : IsSoundCapacitor port.capacitor
  pub laws : AreSoundLaws port.laws

-- a neutral, where there is one, is a node
abbrev IsNeutralNode : ℕ → Option ℕ → Type 0
IsNeutralNode nodes None = Unit {0}
IsNeutralNode nodes (Some neutral) = neutral < nodes

returning_sound : (nodes owner : ℕ) (neutral : Option ℕ) (node : ℕ) (laws : List Law) → node < nodes → IsNeutralNode nodes neutral → AreSoundLaws laws → AreSound nodes owner (returning neutral node laws owner)
returning_sound nodes owner None node laws h n s = sound_to_grounds nodes node owner laws h s
returning_sound nodes owner (Some neutral) node laws h n s = sound_betweens nodes node neutral owner laws h n s

behind_sound : (nodes owner : ℕ) (capacitor : Option Law) (neutral : Option ℕ) (node inner : ℕ) (laws : List Law) → node < nodes → inner + inner_nodes capacitor ≤ nodes → IsNeutralNode nodes neutral
    → IsSoundCapacitor capacitor → AreSoundLaws laws → AreSound nodes owner (branches_behind capacitor neutral node inner laws owner)
behind_sound nodes owner None neutral node inner laws h i n c s = returning_sound nodes owner neutral node laws h n s
behind_sound nodes owner (Some capacitor) neutral node inner laws h i n c s =
    let there : inner < nodes = omega (arith, i) in
    (sound_between nodes node inner owner capacitor h there c, returning_sound nodes owner neutral inner laws there n s)

port_sound : (nodes owner : ℕ) (port : Port) (neutral : Option ℕ) (node inner : ℕ) → IsSoundPort port → node < nodes → inner + inner_nodes port.capacitor ≤ nodes → IsNeutralNode nodes neutral
    → AreSound nodes owner (port_branches port neutral node inner owner)
port_sound nodes owner port neutral node inner s h i n = behind_sound nodes owner port.capacitor neutral node inner port.laws h i n s.capacitor s.laws

pub at_node_sound : (port : Port) (node next owner : ℕ) → node < next → IsSoundPort port → IsSound next owner (at_node port node next owner)
at_node_sound port node next owner h s = port_sound (next + inner_nodes port.capacitor) owner port None node next s (omega (arith, h)) (omega arith) tt

each_phase_sound : (nodes owner : ℕ) (port : Port) (neutral : Option ℕ) (bus next : ℕ) → IsSoundPort port → first_node bus + 2 < nodes → next + 3 * inner_nodes port.capacitor ≤ nodes → IsNeutralNode nodes neutral
    → AreSound nodes owner (in_each_phase port neutral bus next owner)
each_phase_sound nodes owner port neutral bus next s h i n =
    let sound = IsSoundBranch nodes owner in
    let inner = inner_nodes port.capacitor in
    each_append sound (port_branches port neutral (phase_node bus 0) (next + 0 * inner) owner) _ (port_sound nodes owner port neutral _ _ s (omega (arith, h)) (omega (arith, i)) n)
    (each_append sound (port_branches port neutral (phase_node bus 1) (next + 1 * inner) owner) _ (port_sound nodes owner port neutral _ _ s (omega (arith, h)) (omega (arith, i)) n)
    (port_sound nodes owner port neutral (phase_node bus 2) (next + 2 * inner) s h (omega (arith, i)) n))

below_three : (phase : Phase) → place_of phase ≤ 2
below_three A = omega arith
below_three B = omega arith
below_three C = omega arith

pub at_phases_sound : (port : Port) (grounded : Bool) (phase : Option Phase) (bus next owner : ℕ) → first_node bus + 2 < next → IsSoundPort port → IsSound next owner (at_phases port grounded phase bus next owner)
at_phases_sound port grounded (Some phase) bus next owner h s = at_node_sound port (phase_node bus (place_of phase)) next owner (omega (arith, h, below_three phase)) s
at_phases_sound port true None bus next owner h s = each_phase_sound (next + 3 * inner_nodes port.capacitor) owner port None bus next s (omega (arith, h)) (omega arith) tt
at_phases_sound port false None bus next owner h s =
    each_phase_sound (next + (1 + 3 * inner_nodes port.capacitor)) owner port (Some next) bus (next + 1) s (omega (arith, h)) (omega arith) (omega arith)
