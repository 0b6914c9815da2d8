-- What holds of the networks of each model holds of the study's.
use Rattle.std.proofs.Common.{◌≡◌, ◌∙◌, ◌<◌, ◌*◌, ℕ, length, Option, Some, None, refl, sym, subst, ap, arith}
use Rattle.net_branch.specs.Exact.{exact_network}
use Rattle.net_branch.specs.Whole.{IsWholeNetwork}
use Rattle.net_branch.specs.declared.network.Network.{Network}
use Rattle.element_parts.specs.Phases.{place_of}
use Rattle.sequence_network.specs.Built.{IsNetworkOf}
use Rattle.sequence_network.specs.Refusals.{IsLiveRefusal, HasLiveNetworks}
use Rattle.sequence_network.specs.declared.live.Networks.{Networks}
use Rattle.sequence_network.proofs.Liveness.{buses_within}
use Rattle.phase_network.specs.Built.{IsPhaseNetworkOf}
use Rattle.phase_network.specs.Refusals.{IsPhaseRefusal, HasLivePhases}
use Rattle.study_model.specs.Lawful.{IsLawfulScan}
use Rattle.study_model.specs.Rules.{IsScanned}
use Rattle.study_model.specs.declared.fault.StudyFault.{StudyFault}
use Rattle.study_model.specs.declared.records.ScanItem.{ScanItem}
use Rattle.study_model.specs.declared.records.Study.{Study}
use Rattle.study_model.specs.declared.words.Phase.{Phase}
use Rattle.study_model.specs.declared.words.Phase.TheVariants.{A, B, C}
use Rattle.study_model.specs.declared.words.Sequence.{Sequence}
use Rattle.study_model.specs.declared.words.Sequence.TheVariants.{Positive, Zero}
use Rattle.study_model.specs.declared.words.StudyModel.{StudyModel}
use Rattle.study_model.specs.declared.words.StudyModel.TheVariants as study_model
use Rattle.study_networks.specs.Networks.{network_at, AreSequencesOf, AreNetworksOf, HasLiveIn, HasLive, IsRefusalIn, IsNetworksRefusal}
use Rattle.study_networks.specs.Scanned.{scanned_in, scanned_network, node_at, scanned_node}
use Rattle.study_networks.specs.declared.networks.StudyNetworks.TheVariants.{Sequences, Phases}

both : (study : Study) (networks : Networks) → IsNetworkOf study Positive networks.positive → IsNetworkOf study Zero networks.zero → AreSequencesOf study networks
both study networks p z Positive = p
both study networks p z Zero = z

pub sequences_are : (study : Study) (networks : Networks) → study.model ≡ study_model.Sequence → IsNetworkOf study Positive networks.positive → IsNetworkOf study Zero networks.zero
    → AreNetworksOf study (Sequences networks)
sequences_are study networks m p z = (m, both study networks p z)

pub phases_are : (study : Study) (network : Network) → study.model ≡ study_model.Phases → IsPhaseNetworkOf study network → AreNetworksOf study (Phases network)
phases_are study network m n = (m, n)

pub live_sequences : (study : Study) → study.model ≡ study_model.Sequence → HasLiveNetworks study → HasLive study
unfolding HasLive
live_sequences study m h = subst (λ (k : StudyModel). HasLiveIn k study) (sym m) h

pub live_phases : (study : Study) → study.model ≡ study_model.Phases → HasLivePhases study → HasLive study
unfolding HasLive
live_phases study m h = subst (λ (k : StudyModel). HasLiveIn k study) (sym m) h

pub sequences_refused : (study : Study) (fault : StudyFault) → study.model ≡ study_model.Sequence → IsLiveRefusal study fault → IsNetworksRefusal study fault
unfolding IsNetworksRefusal
sequences_refused study fault m r = subst (λ (k : StudyModel). IsRefusalIn k study fault) (sym m) r

pub phases_refused : (study : Study) (fault : StudyFault) → study.model ≡ study_model.Phases → IsPhaseRefusal study fault → IsNetworksRefusal study fault
unfolding IsNetworksRefusal
phases_refused study fault m r = subst (λ (k : StudyModel). IsRefusalIn k study fault) (sym m) r

-- ---- what a scan looks at
-- a network is the scanned one, whole, and has the scanned node
pub record IsScannedIn (study : Study) (scan : ScanItem) (network : Network) : Type 0 where
  pub exact : exact_network network ≡ scanned_network study scan
  pub whole : IsWholeNetwork network
  pub inside : scanned_node scan < network.nodes

-- a scan of the sequence model has no phase
bus_alone : (sequence : Sequence) (phase : Option Phase) (bus : ℕ) → IsScanned study_model.Sequence sequence phase → node_at bus phase ≡ bus
bus_alone sequence None bus is = refl
bus_alone sequence (Some phase) bus is = absurd is

place_few : (phase : Phase) → place_of phase < 3
place_few A = omega arith
place_few B = omega arith
place_few C = omega arith

-- and one of three phases has its node among those of its bus
one_of_three : (sequence : Sequence) (phase : Option Phase) (bus buses : ℕ) → IsScanned study_model.Phases sequence phase → bus < buses → node_at bus phase < 3 * buses
one_of_three Positive None bus buses is inside = absurd is
one_of_three Zero None bus buses is inside = absurd is
one_of_three sequence (Some phase) bus buses is inside = let few = place_few phase in omega arith

sequence_scanned : (study : Study) (networks : Networks) (scan : ScanItem) → AreNetworksOf study (Sequences networks) → IsLawfulScan study.version study.model study.buses scan
    → IsScannedIn study scan (network_at scan.network networks)
unfolding scanned_network
sequence_scanned study networks scan are lawful =
    let is = are.1 scan.network in
    let alone = bus_alone scan.network scan.phase scan.bus (subst (λ (m : StudyModel). IsScanned m scan.network scan.phase) are.0 lawful.network_phase) in
    record {
      exact = is.exact ∙ sym (ap (λ (m : StudyModel). scanned_in m study scan) are.0);
      whole = is.whole;
      inside = let within = buses_within study scan.network (exact_network (network_at scan.network networks)) is.exact is.whole.exact.buses in omega (arith, alone, within, lawful.bus);
    }

pub positive_scanned : (study : Study) (networks : Networks) (scan : ScanItem) → AreNetworksOf study (Sequences networks) → IsLawfulScan study.version study.model study.buses scan
    → scan.network ≡ Positive → IsScannedIn study scan networks.positive
positive_scanned study networks scan are lawful e = subst (λ (s : Sequence). IsScannedIn study scan (network_at s networks)) e (sequence_scanned study networks scan are lawful)

pub zero_scanned : (study : Study) (networks : Networks) (scan : ScanItem) → AreNetworksOf study (Sequences networks) → IsLawfulScan study.version study.model study.buses scan
    → scan.network ≡ Zero → IsScannedIn study scan networks.zero
zero_scanned study networks scan are lawful e = subst (λ (s : Sequence). IsScannedIn study scan (network_at s networks)) e (sequence_scanned study networks scan are lawful)

pub phases_scanned : (study : Study) (network : Network) (scan : ScanItem) → AreNetworksOf study (Phases network) → IsLawfulScan study.version study.model study.buses scan
    → IsScannedIn study scan network
unfolding scanned_network
phases_scanned study network scan are lawful =
    let few = one_of_three scan.network scan.phase scan.bus (length study.buses) (subst (λ (m : StudyModel). IsScanned m scan.network scan.phase) are.0 lawful.network_phase) lawful.bus in
    let within = are.1.whole.exact.buses in
    record {
      exact = are.1.exact ∙ sym (ap (λ (m : StudyModel). scanned_in m study scan) are.0);
      whole = are.1.whole;
      inside = omega (arith, few, within, are.1.buses);
    }
