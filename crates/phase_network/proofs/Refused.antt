-- A study of three phases that has live networks has no refusal.
use Rattle.std.proofs.Common.{◌≡◌, ℕ, ◌<◌, length, subst, arith}
use Rattle.network_theory.specs.Network.{Network}
use Rattle.network_theory.specs.Live.{Live}
use Rattle.study_model.specs.declared.fault.StudyFault.{StudyFault}
use Rattle.study_model.specs.declared.records.Study.{Study}
use Rattle.study_model.specs.declared.words.Sequence.TheVariants.{Zero}
use Rattle.sequence_network.specs.Networks.{network_of}
use Rattle.sequence_network.specs.Refusals.{IsFirstDead}
use Rattle.sequence_network.proofs.Liveness.{no_floating_bus}
use Rattle.phase_network.specs.Refusals.{AreLiveInZero, IsPhaseFloatingBus, phase_floating_bus, IsPhaseRefusal, positive_passes, zero_passes, phases_pass, bus, phase_bus, HasLivePhases}

no_phase_floating : (study : Study) (fault : StudyFault) → AreLiveInZero study → IsPhaseFloatingBus (network_of study Zero) (length study.buses) fault → ⊥
no_phase_floating study _ h (phase_floating_bus n first) = first.dead (h n first.inside)

pub no_refusal : (study : Study) → HasLivePhases study → (fault : StudyFault) → IsPhaseRefusal study fault → ⊥
no_refusal study h _ (positive_passes e) = let room = h.room.sequences.positive in absurd (cc)
no_refusal study h _ (zero_passes e f) = let room = h.room.sequences.zero in absurd (cc)
no_refusal study h _ (phases_pass e f) = let room = h.room.phases in absurd (cc)
no_refusal study h _ (bus fault room f) = no_floating_bus study fault h.buses f
no_refusal study h _ (phase_bus fault room live f) = no_phase_floating study fault h.zero f

-- what is found of the network that is built is so of the study's
pub live_in_zero : (study : Study) (n : Network) (a : ℕ) → n ≡ network_of study Zero → a ≡ length study.buses → ((k : ℕ) → k < a → Live n k) → AreLiveInZero study
live_in_zero study n a e f h = λ k l. subst (λ (m : Network). Live m k) e (h k (omega arith))

pub first_in_zero : (study : Study) (n : Network) (a k : ℕ) → n ≡ network_of study Zero → a ≡ length study.buses → IsFirstDead n a k → IsFirstDead (network_of study Zero) (length study.buses) k
first_in_zero study n a k e f h = subst (λ (b : ℕ). IsFirstDead (network_of study Zero) b k) f (subst (λ (m : Network). IsFirstDead m a k) e h)
