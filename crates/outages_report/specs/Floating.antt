-- Outages that float: without the element some bus has no path to ground.
use Rattle.std.specs.Prelude.{ℕ, Bool, false, not, ◌||◌, List, length}
use Rattle.std.specs.List.{list_any, range_with_len}
use Rattle.network_theory.specs.Network.{Network}
use Rattle.network_theory.specs.Reach.{is_live}
use Rattle.sequence_network.specs.Networks.{network_of}
use Rattle.study_model.specs.declared.records.ScanItem.{ScanItem}
use Rattle.study_model.specs.declared.records.Study.{Study}
use Rattle.study_model.specs.declared.words.Sequence.{Sequence}
use Rattle.study_model.specs.declared.words.Sequence.TheVariants.{Positive, Zero}
use Rattle.study_model.specs.declared.words.StudyModel.{StudyModel}
use Rattle.study_model.specs.declared.words.StudyModel.TheVariants as study_model
use Rattle.study_variants.specs.Outages.{without}

-- some of so many nodes from a number on isn't live
abbrev pub some_node_is_dead : Network → ℕ → ℕ → Bool
some_node_is_dead network node count = list_any (λ n. not (is_live network n)) (range_with_len node count)

-- the first nodes of a sequence network are those of the buses
abbrev pub some_bus_is_dead : Study → Network → Bool
some_bus_is_dead study network = some_node_is_dead network 0 (length study.buses)

-- the scan is of the zero network, and its bus isn't live there
abbrev pub is_dead_in : Sequence → Network → ℕ → Bool
is_dead_in Positive zero bus = false
is_dead_in Zero zero bus = not (is_live zero bus)

abbrev pub some_scan_is_dead : Network → List ScanItem → Bool
some_scan_is_dead zero scans = list_any (λ scan. is_dead_in scan.network zero scan.bus) scans

-- what has to be live in the zero network isn't: in the sequence model the bus of each scan of it, in that of three phases each bus
abbrev pub zero_is_dead_in : StudyModel → Study → Network → Bool
zero_is_dead_in study_model.Sequence study zero = some_scan_is_dead zero study.scans
zero_is_dead_in study_model.Phases study zero = some_bus_is_dead study zero

-- the outage of the element of a number floats
unfoldable pub floats : Study → ℕ → Bool
floats study number = some_bus_is_dead study (without number (network_of study Positive)) || zero_is_dead_in study.model study (without number (network_of study Zero))
