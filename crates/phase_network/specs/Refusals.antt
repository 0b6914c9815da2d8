-- Why the networks of a study of three phases are refused, and where. A scan of such a study is one of a phase, and has no sequence network in which its bus
-- might not be live.
use Rattle.std.specs.Prelude.{ℕ, ◌<◌, IsTrue, IsFalse, length}
use Rattle.network_theory.specs.Network.{Network}
use Rattle.network_theory.specs.Live.{Live}
use Rattle.study_model.specs.declared.words.Sequence.TheVariants.{Positive, Zero}
use Rattle.study_model.specs.declared.fault.StudyFault.{StudyFault}
use Rattle.study_model.specs.declared.fault.StudyFault.TheVariants.{TooMany, PhaseFloating}
use Rattle.study_model.specs.declared.records.Study.{Study}
use Rattle.element_parts.specs.Expansion.{passes_limits}
use Rattle.sequence_network.specs.Networks.{network_of}
use Rattle.sequence_network.specs.Refusals.{network_place, bus_place, IsFirstDead, IsFloatingBus, HaveRoom, AreLiveBuses}
use Rattle.phase_network.specs.Phases.{phase_network_of}

-- the first bus that isn't live in the zero network
pub data IsPhaseFloatingBus (zero : Network) (buses : ℕ) : StudyFault → Type 0 where
  phase_floating_bus : (n : ℕ) → IsFirstDead zero buses n → IsPhaseFloatingBus zero buses (PhaseFloating (bus_place n))

-- the three networks are within the limits
pub record HavePhaseRoom (study : Study) : Type 0 where
  pub sequences : HaveRoom study
  pub phases : IsFalse (passes_limits (phase_network_of study))

-- every bus is live in the zero network
abbrev pub AreLiveInZero : Study → Type 0
AreLiveInZero study = (n : ℕ) → n < length study.buses → Live (network_of study Zero) n

-- The first refusal in this order: the positive network passes the limits, the zero network does, the network of three phases does, a bus isn't live in the
-- positive network, a bus isn't in the zero network.
pub data IsPhaseRefusal (study : Study) : StudyFault → Type 0 where
  positive_passes : IsTrue (passes_limits (network_of study Positive)) → IsPhaseRefusal study (TooMany network_place)
  zero_passes : IsFalse (passes_limits (network_of study Positive)) → IsTrue (passes_limits (network_of study Zero)) → IsPhaseRefusal study (TooMany network_place)
  phases_pass : HaveRoom study → IsTrue (passes_limits (phase_network_of study)) → IsPhaseRefusal study (TooMany network_place)
  bus : (fault : StudyFault) → HavePhaseRoom study → IsFloatingBus (network_of study Positive) (length study.buses) fault → IsPhaseRefusal study fault
  phase_bus : (fault : StudyFault) → HavePhaseRoom study → AreLiveBuses study → IsPhaseFloatingBus (network_of study Zero) (length study.buses) fault → IsPhaseRefusal study fault

-- no refusal: the three networks are within the limits, and every bus is live in the positive and in the zero network
pub record HasLivePhases (study : Study) : Type 0 where
  pub room : HavePhaseRoom study
  pub buses : AreLiveBuses study
  pub zero : AreLiveInZero study
