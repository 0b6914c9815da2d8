-- Whether the currents of a spectrum have a path, in the networks that their orders see.
use Rattle.std.specs.Prelude.{◌≡◌, ℕ, ◌+◌, ◌<◌, ◌%◌, nat_eq, if◌then◌else◌, List, slice_get, All, IsSomeAnd}
use Rattle.network_theory.specs.Live.{Live}
use Rattle.study_model.specs.declared.words.Sequence.{Sequence}
use Rattle.study_model.specs.declared.words.Sequence.TheVariants.{Positive, Zero}
use Rattle.study_model.specs.declared.words.StudyModel.{StudyModel}
use Rattle.study_model.specs.declared.words.StudyModel.TheVariants as study_model
use Rattle.study_model.specs.declared.records.Study.{Study}
use Rattle.sequence_network.specs.Networks.{network_of}
use Rattle.spectrum_reader.specs.declared.injection.Injection.{Injection}
use Rattle.spectrum_reader.specs.declared.fault.SpectrumFault.{SpectrumFault}
use Rattle.spectrum_reader.specs.declared.fault.SpectrumFault.TheVariants.{NoPath}

-- the sequence network that an order sees: the zero network where it is a multiple of 3
abbrev pub sequence_of_order : ℕ → Sequence
sequence_of_order order = if nat_eq (order % 3) 0 then Zero else Positive

-- the bus of a row is live in the network that its order sees
abbrev pub HasPath : Study → Injection → Type 0
HasPath study row = Live (network_of study (sequence_of_order row.order)) row.bus

-- the first row without a path
pub data IsNoPath (study : Study) (rows : List Injection) : SpectrumFault → Type 0 where
  no_path : (n : ℕ) → IsSomeAnd (slice_get rows n) (λ row. ¬ HasPath study row) → ((k : ℕ) → k < n → IsSomeAnd (slice_get rows k) (HasPath study)) → IsNoPath study rows (NoPath (n + 1))

-- what a model asks of the rows: in the sequence model each has a path; in that of three phases an order that injects where there is none has no solution, and no row is refused
abbrev pub HavePathsIn : StudyModel → Study → List Injection → Type 0
HavePathsIn study_model.Sequence study rows = All (HasPath study) rows
HavePathsIn study_model.Phases study rows = Unit {0}

-- and the study's own
unfoldable pub HavePaths : Study → List Injection → Type 0
HavePaths study rows = HavePathsIn study.model study rows

-- the first row without a path, in the sequence model
pub record IsPathless (study : Study) (rows : List Injection) (fault : SpectrumFault) : Type 0 where
  pub model : study.model ≡ study_model.Sequence
  pub first : IsNoPath study rows fault
