-- The sequence networks of a study.
use Rattle.std.specs.Prelude.{ℕ, ◌+◌, List, [], ◌∷◌, length}
use Rattle.network_theory.specs.Network.{Network}
use Rattle.study_model.specs.Lawful.{IsLawfulSource, IsLawfulLine, IsLawfulTransformer, IsLawfulLoad, IsLawfulBank, IsLawfulFilter}
use Rattle.study_model.specs.declared.words.Sequence.{Sequence}
use Rattle.study_model.specs.declared.records.Study.{Study}
use Rattle.study_model.specs.Elements.{StudyElement, of_source, of_line, of_transformer, of_load, of_bank, of_filter, elements_of}
use Rattle.element_parts.specs.Expansion.{Expansion, with_element}
use Rattle.load_filter_model.specs.Sources.{source_expansion}
use Rattle.load_filter_model.specs.Loads.{load_expansion}
use Rattle.load_filter_model.specs.Banks.{bank_expansion}
use Rattle.line_pi.specs.Lines.{line_expansion}
use Rattle.transformer_model.specs.Transformers.{transformer_expansion}
use Rattle.load_filter_model.specs.Filters.{filter_expansion}

-- it is lawful in the study
abbrev pub IsLawfulElement : Study → StudyElement → Type 0
IsLawfulElement study (of_source e) = IsLawfulSource study.buses e
IsLawfulElement study (of_line e) = IsLawfulLine study.model study.buses e
IsLawfulElement study (of_transformer e) = IsLawfulTransformer study.buses e
IsLawfulElement study (of_load e) = IsLawfulLoad study.model study.buses e
IsLawfulElement study (of_bank e) = IsLawfulBank study.model study.buses e
IsLawfulElement study (of_filter e) = IsLawfulFilter study.model study.buses e

-- what it adds, under its number, where the network's next node has the number `next`
abbrev pub expansion_of : Study → Sequence → ℕ → StudyElement → ℕ → Expansion
expansion_of study sequence next (of_source e) owner = source_expansion study e owner sequence
expansion_of study sequence next (of_line e) owner = line_expansion study e owner sequence next
expansion_of study sequence next (of_transformer e) owner = transformer_expansion study e owner sequence next
expansion_of study sequence next (of_load e) owner = load_expansion study e owner sequence
expansion_of study sequence next (of_bank e) owner = bank_expansion study e owner sequence
expansion_of study sequence next (of_filter e) owner = filter_expansion study e owner sequence next

-- a network with further elements, which have their numbers from `owner` on; `added` says what each adds to a network under its number
abbrev pub grown : (Network → StudyElement → ℕ → Expansion) → Network → ℕ → List StudyElement → Network
grown added network owner [] = network
grown added network owner (e ∷ es) = grown added (with_element network (added network e owner)) (owner + 1) es

-- what an element adds to a sequence network
abbrev pub added_to : Study → Sequence → Network → StudyElement → ℕ → Expansion
added_to study sequence network e owner = expansion_of study sequence network.nodes e owner

abbrev pub with_elements : Study → Sequence → Network → ℕ → List StudyElement → Network
with_elements study sequence network owner es = grown (added_to study sequence) network owner es

-- a node for each bus
abbrev pub bus_nodes : Study → Network
bus_nodes study = record { buses = length study.buses; nodes = length study.buses; branches = [] }

-- a network of a study: its bus nodes, then its elements
unfoldable pub network_of : Study → Sequence → Network
network_of study sequence = with_elements study sequence (bus_nodes study) 1 (elements_of study)
