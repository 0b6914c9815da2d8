-- What a scan of a study looks at.
use Rattle.std.specs.Prelude.{ℕ, Option, Some, None}
use Rattle.network_theory.specs.Network.{Network}
use Rattle.element_parts.specs.Phases.{phase_node, place_of}
use Rattle.sequence_network.specs.Networks.{network_of}
use Rattle.phase_network.specs.Phases.{phase_network_of}
use Rattle.study_model.specs.declared.records.ScanItem.{ScanItem}
use Rattle.study_model.specs.declared.records.Study.{Study}
use Rattle.study_model.specs.declared.words.Phase.{Phase}
use Rattle.study_model.specs.declared.words.StudyModel.{StudyModel}
use Rattle.study_model.specs.declared.words.StudyModel.TheVariants as study_model

-- the network that a scan looks at in a model: that of its sequence, or that of the three phases
abbrev pub scanned_in : StudyModel → Study → ScanItem → Network
scanned_in study_model.Sequence study scan = network_of study scan.network
scanned_in study_model.Phases study scan = phase_network_of study

-- and in the study's own
unfoldable pub scanned_network : Study → ScanItem → Network
scanned_network study scan = scanned_in study.model study scan

-- the node of a bus; with a phase, of its three nodes that of the phase
abbrev pub node_at : ℕ → Option Phase → ℕ
node_at bus None = bus
node_at bus (Some phase) = phase_node bus (place_of phase)

-- the node that a scan looks at
abbrev pub scanned_node : ScanItem → ℕ
scanned_node scan = node_at scan.bus scan.phase
