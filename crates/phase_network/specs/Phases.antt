-- The network of a study in three phases.
use Rattle.std.specs.Prelude.{ℕ, ◌+◌, ◌*◌, max, List, [], ◌∷◌, length}
use Rattle.network_theory.specs.Branch.{Branch}
use Rattle.network_theory.specs.Network.{Network}
use Rattle.study_model.specs.declared.records.Study.{Study}
use Rattle.study_model.specs.Elements.{StudyElement, of_source, of_line, of_transformer, of_load, of_bank, of_filter, elements_of}
use Rattle.element_parts.specs.Expansion.{Expansion}
use Rattle.line_pi.specs.PhaseLines.{line_phases}
use Rattle.transformer_model.specs.Windings.{transformer_phases}
use Rattle.load_filter_model.specs.Sources.{source_phases}
use Rattle.load_filter_model.specs.Loads.{load_phases}
use Rattle.load_filter_model.specs.Banks.{bank_phases}
use Rattle.load_filter_model.specs.Filters.{filter_phases}
use Rattle.sequence_network.specs.Networks.{grown}

-- the number of the next group: groups are numbered from 1 in the order in which they come, so it is one more than the greatest
abbrev pub next_group : List Branch → ℕ
next_group [] = 1
next_group (b ∷ bs) = max (b.group + 1) (next_group bs)

-- what an element adds to the network, under its number
abbrev pub phases_added : Study → Network → StudyElement → ℕ → Expansion
phases_added study network (of_source e) owner = source_phases study e owner (next_group network.branches) network.nodes
phases_added study network (of_line e) owner = line_phases study e owner (next_group network.branches) network.nodes
phases_added study network (of_transformer e) owner = transformer_phases study e owner network.nodes
phases_added study network (of_load e) owner = load_phases study e owner network.nodes
phases_added study network (of_bank e) owner = bank_phases study e owner network.nodes
phases_added study network (of_filter e) owner = filter_phases study e owner network.nodes

-- three nodes for each bus
abbrev pub phase_buses : Study → Network
phase_buses study = record { buses = 3 * length study.buses; nodes = 3 * length study.buses; branches = [] }

-- its bus nodes, then its elements
unfoldable pub phase_network_of : Study → Network
phase_network_of study = grown (phases_added study) (phase_buses study) 1 (elements_of study)
