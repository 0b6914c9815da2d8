-- Lines in the network of three phases: the sections of a line are groups of three coupled phases.
use Rattle.std.specs.Prelude.{ℕ, zero, suc, ◌+◌, ◌-◌, ◌*◌, ℤ, pos, ◌-ℤ◌, int_lt, List, [], ◌∷◌, ◌++◌, Option, Some, None, if◌then◌else◌}
use Rattle.network_theory.specs.Branch.{Law, Shunt, Coupling, Branch}
use Rattle.study_model.specs.declared.records.Line.{Line}
use Rattle.study_model.specs.declared.records.Study.{Study}
use Rattle.study_model.specs.Voltages.{kv_of}
use Rattle.element_parts.specs.PerUnit.{impedance_share, susceptance_share}
use Rattle.element_parts.specs.Expansion.{Expansion, to_ground, between, open_circuit}
use Rattle.element_parts.specs.Phases.{first_node, next_phase, in_phases, group_between, coupling_share}

-- where a line has mutual reactances, each of the two phases that it names, one of N equal parts
abbrev pub with_mutual : Study → Line → Option ℤ → Option ℤ → Option ℤ → Coupling → Coupling
with_mutual study e (Some xab) (Some xbc) (Some xca) values =
    let v = kv_of study.buses e.from in
    record values { x_ab = impedance_share xab study.mva v e.sections; x_bc = impedance_share xbc study.mva v e.sections; x_ca = impedance_share xca study.mva v e.sections }
with_mutual study e _ _ _ values = values

-- one of N sections: the impedances between its ends over N
abbrev pub line_coupling : Study → Line → ℤ → ℤ → Coupling
line_coupling study e r0 x0 =
    with_mutual study e e.xab e.xbc e.xca
    (coupling_share (record { r = e.r; x = e.x; r0 = r0; x0 = x0 }) e.skin_k e.skin_m study.mva (kv_of study.buses e.from) e.sections)

-- at an end of a section, where b0 is above 0: Shunt b0/(2N) from each phase to ground
abbrev pub phase_shunt : Study → Line → ℤ → Option Law
phase_shunt study e b0 = if int_lt (pos 0) b0 then Some (Shunt (susceptance_share b0 study.mva (kv_of study.buses e.from) (2 * e.sections))) else None

-- where b is above b0: Shunt (b - b0)/(6N) between each two phases
abbrev pub pair_shunt : Study → Line → ℤ → ℤ → Option Law
pair_shunt study e b0 b = if int_lt b0 b then Some (Shunt (susceptance_share (b -ℤ b0) study.mva (kv_of study.buses e.from) (6 * e.sections))) else None

abbrev pub each_to_ground : Option Law → ℕ → ℕ → List Branch
each_to_ground None node owner = []
each_to_ground (Some law) node owner = in_phases (λ p. to_ground (node + p) law owner ∷ [])

-- between a and b, b and c, c and a
abbrev pub each_to_next : Option Law → ℕ → ℕ → List Branch
each_to_next None node owner = []
each_to_next (Some law) node owner = in_phases (λ p. between (node + p) (node + next_phase p) law owner ∷ [])

-- an end of a section, whose first node is that of a
abbrev pub phase_end : Option Law → Option Law → ℕ → ℕ → List Branch
phase_end shunt pair node owner = each_to_ground shunt node owner ++ each_to_next pair node owner

-- a section: its group of three, then its near end and its far end
abbrev pub phase_section : Coupling → Option Law → Option Law → ℕ → ℕ → ℕ → ℕ → List Branch
phase_section values shunt pair near far group owner =
    group_between near far values group owner ++ (phase_end shunt pair near owner ++ phase_end shunt pair far owner)

-- sections from the node of phase a over so many times three inner nodes, the first of them `next`, to another node of phase a; each has a group of its own
abbrev pub phase_cascade : Coupling → Option Law → Option Law → ℕ → ℕ → ℕ → ℕ → ℕ → ℕ → List Branch
phase_cascade values shunt pair near next zero far group owner = phase_section values shunt pair near far group owner
phase_cascade values shunt pair near next (suc inner) far group owner =
    phase_section values shunt pair near next group owner ++ phase_cascade values shunt pair next (next + 3) inner far (group + 1) owner

-- a line of r0 and x0 ohms in the zero sequence, with N - 1 times three inner nodes and groups of the numbers from `group` on
abbrev pub phase_line : Study → Line → ℕ → ℕ → ℕ → ℤ → ℤ → Expansion
phase_line study e owner group next r0 x0 = record {
  inner = 3 * (e.sections - 1);
  branches = phase_cascade (line_coupling study e r0 x0) (phase_shunt study e e.b0) (pair_shunt study e e.b0 e.b) (first_node e.from) next (e.sections - 1) (first_node e.to) group owner;
}

-- every line of a study of three phases has r0 and x0
abbrev pub line_in_phases : Study → Line → ℕ → ℕ → ℕ → Option ℤ → Option ℤ → Expansion
line_in_phases study e owner group next (Some r0) (Some x0) = phase_line study e owner group next r0 x0
line_in_phases study e owner group next _ _ = open_circuit

unfoldable pub line_phases : Study → Line → ℕ → ℕ → ℕ → Expansion
line_phases study e owner group next = line_in_phases study e owner group next e.r0 e.x0
