-- Why a study's sequence networks are refused, and where.
use Rattle.std.specs.Prelude.{◌≡◌, ℕ, ◌+◌, ◌<◌, IsTrue, IsFalse, List, length, slice_get, All, IsSomeAnd}
use Rattle.network_theory.specs.Network.{Network}
use Rattle.network_theory.specs.Live.{Live}
use Rattle.study_model.specs.declared.words.Sequence.TheVariants.{Positive, Zero}
use Rattle.study_model.specs.declared.fault.Section.TheVariants as section
use Rattle.study_model.specs.declared.fault.Key.TheVariants as key
use Rattle.study_model.specs.declared.fault.Place.{Place}
use Rattle.study_model.specs.declared.fault.StudyFault.{StudyFault}
use Rattle.study_model.specs.declared.fault.StudyFault.TheVariants.{TooMany, Floating}
use Rattle.study_model.specs.declared.records.ScanItem.{ScanItem}
use Rattle.study_model.specs.declared.records.Study.{Study}
use Rattle.element_parts.specs.Expansion.{passes_limits}
use Rattle.sequence_network.specs.Networks.{network_of}

-- the place of a network
abbrev pub network_place : Place
network_place = record { section = section.Network; entry = 0; key = key.Nothing }

-- the place of a bus, by its number from 0
abbrev pub bus_place : ℕ → Place
bus_place n = record { section = section.Bus; entry = n + 1; key = key.Nothing }

-- the place of a scan's bus, by the scan's number from 0
abbrev pub scan_place : ℕ → Place
scan_place n = record { section = section.Scan; entry = n + 1; key = key.Bus }

-- the bus of a scan of the zero network is live there
abbrev pub IsLiveScan : Network → ScanItem → Type 0
IsLiveScan zero scan = scan.network ≡ Zero → Live zero scan.bus

-- the first of so many nodes that isn't live
pub record IsFirstDead (network : Network) (buses n : ℕ) : Type 0 where
  pub inside : n < buses
  pub before : (k : ℕ) → k < n → Live network k
  pub dead : ¬ Live network n

-- the first bus that isn't live
pub data IsFloatingBus (positive : Network) (buses : ℕ) : StudyFault → Type 0 where
  floating_bus : (n : ℕ) → IsFirstDead positive buses n → IsFloatingBus positive buses (Floating (bus_place n))

-- the first scan of the zero network whose bus isn't live there
pub data IsFloatingScan (zero : Network) (scans : List ScanItem) : StudyFault → Type 0 where
  floating_scan : (n : ℕ) → IsSomeAnd (slice_get scans n) (λ scan. ¬ IsLiveScan zero scan) → ((k : ℕ) → k < n → IsSomeAnd (slice_get scans k) (IsLiveScan zero)) → IsFloatingScan zero scans (Floating (scan_place n))

-- both networks are within the limits
pub record HaveRoom (study : Study) : Type 0 where
  pub positive : IsFalse (passes_limits (network_of study Positive))
  pub zero : IsFalse (passes_limits (network_of study Zero))

-- every bus is live in the positive network
abbrev pub AreLiveBuses : Study → Type 0
AreLiveBuses study = (n : ℕ) → n < length study.buses → Live (network_of study Positive) n

-- The first refusal in this order: the positive network passes the limits, the zero network does, a bus isn't live, the bus of a zero scan isn't.
pub data IsLiveRefusal (study : Study) : StudyFault → Type 0 where
  positive_passes : IsTrue (passes_limits (network_of study Positive)) → IsLiveRefusal study (TooMany network_place)
  zero_passes : IsFalse (passes_limits (network_of study Positive)) → IsTrue (passes_limits (network_of study Zero)) → IsLiveRefusal study (TooMany network_place)
  bus : (fault : StudyFault) → HaveRoom study → IsFloatingBus (network_of study Positive) (length study.buses) fault → IsLiveRefusal study fault
  scan : (fault : StudyFault) → HaveRoom study → AreLiveBuses study → IsFloatingScan (network_of study Zero) study.scans fault → IsLiveRefusal study fault

-- no refusal: both networks are within the limits, every bus is live in the positive one, and the bus of each zero scan in the zero one
pub record HasLiveNetworks (study : Study) : Type 0 where
  pub room : HaveRoom study
  pub buses : AreLiveBuses study
  pub scans : All (IsLiveScan (network_of study Zero)) study.scans
