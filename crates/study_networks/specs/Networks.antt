-- The networks of a study as they are built, by its model, and why a study is refused for them.
use Rattle.std.specs.Prelude.{◌≡◌}
use Rattle.net_branch.specs.declared.network.Network.{Network}
use Rattle.sequence_network.specs.Built.{IsNetworkOf}
use Rattle.sequence_network.specs.Refusals.{IsLiveRefusal, HasLiveNetworks}
use Rattle.sequence_network.specs.declared.live.Networks.{Networks}
use Rattle.phase_network.specs.Built.{IsPhaseNetworkOf}
use Rattle.phase_network.specs.Refusals.{IsPhaseRefusal, HasLivePhases}
use Rattle.study_model.specs.declared.fault.StudyFault.{StudyFault}
use Rattle.study_model.specs.declared.records.Study.{Study}
use Rattle.study_model.specs.declared.words.Sequence.{Sequence}
use Rattle.study_model.specs.declared.words.Sequence.TheVariants.{Positive, Zero}
use Rattle.study_model.specs.declared.words.StudyModel.{StudyModel}
use Rattle.study_model.specs.declared.words.StudyModel.TheVariants as study_model
use Rattle.study_networks.specs.declared.networks.StudyNetworks.{StudyNetworks}
use Rattle.study_networks.specs.declared.networks.StudyNetworks.TheVariants.{Sequences, Phases}

-- the network of a sequence
abbrev pub network_at : Sequence → Networks → Network
network_at Positive networks = networks.positive
network_at Zero networks = networks.zero

-- the networks are those of the sequences of a study
abbrev pub AreSequencesOf : Study → Networks → Type 0
AreSequencesOf study networks = (sequence : Sequence) → IsNetworkOf study sequence (network_at sequence networks)

-- the networks are those of a study, by its model
abbrev pub AreNetworksOf : Study → StudyNetworks → Type 0
AreNetworksOf study (Sequences networks) = (study.model ≡ study_model.Sequence) × AreSequencesOf study networks
AreNetworksOf study (Phases network) = (study.model ≡ study_model.Phases) × IsPhaseNetworkOf study network

-- no refusal in a model: the networks are within the limits, and live where they have to be
abbrev pub HasLiveIn : StudyModel → Study → Type 0
HasLiveIn study_model.Sequence study = HasLiveNetworks study
HasLiveIn study_model.Phases study = HasLivePhases study

-- and in the study's own
unfoldable pub HasLive : Study → Type 0
HasLive study = HasLiveIn study.model study

-- the first refusal in a model
abbrev pub IsRefusalIn : StudyModel → Study → StudyFault → Type 0
IsRefusalIn study_model.Sequence study fault = IsLiveRefusal study fault
IsRefusalIn study_model.Phases study fault = IsPhaseRefusal study fault

-- and in the study's own
unfoldable pub IsNetworksRefusal : Study → StudyFault → Type 0
IsNetworksRefusal study fault = IsRefusalIn study.model study fault
