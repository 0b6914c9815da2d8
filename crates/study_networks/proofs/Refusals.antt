-- A study has one refusal of its networks at most, and none where they are live.
use Rattle.std.proofs.Common.{◌≡◌, ℕ, length, refl, ap}
use Rattle.network_theory.specs.Network.{Network}
use Rattle.study_model.specs.declared.fault.StudyFault.{StudyFault}
use Rattle.study_model.specs.declared.fault.StudyFault.TheVariants.{Floating, PhaseFloating}
use Rattle.study_model.specs.declared.records.Study.{Study}
use Rattle.study_model.specs.declared.words.Sequence.TheVariants.{Positive, Zero}
use Rattle.study_model.specs.declared.words.StudyModel.{StudyModel}
use Rattle.study_model.specs.declared.words.StudyModel.TheVariants as study_model
use Rattle.sequence_network.specs.Networks.{network_of}
use Rattle.sequence_network.specs.Refusals.{bus_place, IsFloatingBus, floating_bus}
use Rattle.sequence_network.proofs.Liveness.{no_floating_bus, no_refusal as no_live_refusal}
use Rattle.sequence_network.proofs.LiveRefusals.{same_first, same_live_refusal}
use Rattle.phase_network.specs.Refusals.{IsPhaseFloatingBus, phase_floating_bus, IsPhaseRefusal, positive_passes, zero_passes, phases_pass, bus, phase_bus}
use Rattle.phase_network.proofs.Refused.{no_refusal as no_phase_refusal}
use Rattle.study_networks.specs.Networks.{HasLiveIn, HasLive, IsRefusalIn, IsNetworksRefusal}

same_bus : (network : Network) (buses : ℕ) (f g : StudyFault) → IsFloatingBus network buses f → IsFloatingBus network buses g → f ≡ g
same_bus network buses _ _ (floating_bus n h) (floating_bus m k) = ap (λ (i : ℕ). Floating (bus_place i)) (same_first network buses n m h k)

same_phase_bus : (network : Network) (buses : ℕ) (f g : StudyFault) → IsPhaseFloatingBus network buses f → IsPhaseFloatingBus network buses g → f ≡ g
same_phase_bus network buses _ _ (phase_floating_bus n h) (phase_floating_bus m k) = ap (λ (i : ℕ). PhaseFloating (bus_place i)) (same_first network buses n m h k)

same_phase_refusal : (study : Study) (f g : StudyFault) → IsPhaseRefusal study f → IsPhaseRefusal study g → f ≡ g
same_phase_refusal study _ _ (positive_passes large) (positive_passes large') = refl
same_phase_refusal study _ _ (positive_passes large) (zero_passes fits large') = refl
same_phase_refusal study _ _ (positive_passes large) (phases_pass room large') = refl
same_phase_refusal study _ _ (positive_passes large) (bus g room floats) = let small = room.sequences.positive in absurd (cc)
same_phase_refusal study _ _ (positive_passes large) (phase_bus g room buses floats) = let small = room.sequences.positive in absurd (cc)
same_phase_refusal study _ _ (zero_passes fits large) (positive_passes large') = refl
same_phase_refusal study _ _ (zero_passes fits large) (zero_passes fits' large') = refl
same_phase_refusal study _ _ (zero_passes fits large) (phases_pass room large') = refl
same_phase_refusal study _ _ (zero_passes fits large) (bus g room floats) = let small = room.sequences.zero in absurd (cc)
same_phase_refusal study _ _ (zero_passes fits large) (phase_bus g room buses floats) = let small = room.sequences.zero in absurd (cc)
same_phase_refusal study _ _ (phases_pass room large) (positive_passes large') = refl
same_phase_refusal study _ _ (phases_pass room large) (zero_passes fits large') = refl
same_phase_refusal study _ _ (phases_pass room large) (phases_pass room' large') = refl
same_phase_refusal study _ _ (phases_pass room large) (bus g room' floats) = let small = room'.phases in absurd (cc)
same_phase_refusal study _ _ (phases_pass room large) (phase_bus g room' buses floats) = let small = room'.phases in absurd (cc)
same_phase_refusal study _ _ (bus f room floats) (positive_passes large) = let small = room.sequences.positive in absurd (cc)
same_phase_refusal study _ _ (bus f room floats) (zero_passes fits large) = let small = room.sequences.zero in absurd (cc)
same_phase_refusal study _ _ (bus f room floats) (phases_pass room' large) = let small = room.phases in absurd (cc)
same_phase_refusal study _ _ (bus f room floats) (bus g room' floats') = same_bus (network_of study Positive) (length study.buses) f g floats floats'
same_phase_refusal study _ _ (bus f room floats) (phase_bus g room' buses floats') = absurd (no_floating_bus study f buses floats)
same_phase_refusal study _ _ (phase_bus f room buses floats) (positive_passes large) = let small = room.sequences.positive in absurd (cc)
same_phase_refusal study _ _ (phase_bus f room buses floats) (zero_passes fits large) = let small = room.sequences.zero in absurd (cc)
same_phase_refusal study _ _ (phase_bus f room buses floats) (phases_pass room' large) = let small = room.phases in absurd (cc)
same_phase_refusal study _ _ (phase_bus f room buses floats) (bus g room' floats') = absurd (no_floating_bus study g buses floats')
same_phase_refusal study _ _ (phase_bus f room buses floats) (phase_bus g room' buses' floats') = same_phase_bus (network_of study Zero) (length study.buses) f g floats floats'

-- ---- by the model
same_in : (model : StudyModel) (study : Study) (f g : StudyFault) → IsRefusalIn model study f → IsRefusalIn model study g → f ≡ g
same_in study_model.Sequence study f g h k = same_live_refusal study f g h k
same_in study_model.Phases study f g h k = same_phase_refusal study f g h k

pub same_networks_refusal : (study : Study) (f g : StudyFault) → IsNetworksRefusal study f → IsNetworksRefusal study g → f ≡ g
unfolding IsNetworksRefusal
same_networks_refusal study f g h k = same_in study.model study f g h k

none_in : (model : StudyModel) (study : Study) (f : StudyFault) → HasLiveIn model study → IsRefusalIn model study f → ⊥
none_in study_model.Sequence study f h k = no_live_refusal study h f k
none_in study_model.Phases study f h k = no_phase_refusal study h f k

pub no_networks_refusal : (study : Study) → HasLive study → (f : StudyFault) → IsNetworksRefusal study f → ⊥
unfolding HasLive IsNetworksRefusal
no_networks_refusal study h f k = none_in study.model study f h k
