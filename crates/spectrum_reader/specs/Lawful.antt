-- What every spectrum that is read meets, in its study.
use Rattle.std.specs.Prelude.{◌≡◌, ℕ, ◌≤◌, List, length, All, AllPairs}
use Rattle.study_model.specs.Lawful.{IsBus}
use Rattle.study_model.specs.declared.words.StudyModel.{StudyModel}
use Rattle.study_model.specs.declared.words.StudyModel.TheVariants as study_model
use Rattle.study_model.specs.declared.records.Study.{Study}
use Rattle.spectrum_reader.specs.declared.fields.TheConstants.{MIN_ORDER, MAX_ORDER}
use Rattle.spectrum_reader.specs.declared.injection.Injection.{Injection}
use Rattle.spectrum_reader.specs.declared.injection.TheConstants.{MAX_INJECTIONS}

-- a phase of the model: 0 in the sequence model, one of three in the other
abbrev pub IsPhaseOf : StudyModel → ℕ → Type 0
IsPhaseOf study_model.Sequence phase = phase ≡ 0
IsPhaseOf study_model.Phases phase = phase ≤ 2

-- an injection: its order, its bus and its phase
pub record IsLawfulInjection (study : Study) (row : Injection) : Type 0 where
  pub order : (MIN_ORDER ≤ row.order) × (row.order ≤ MAX_ORDER)
  pub bus : IsBus study.buses row.bus
  pub phase : IsPhaseOf study.model row.phase

-- two injections at one place
abbrev pub AreAtOnePlace : Injection → Injection → Type 0
AreAtOnePlace a b = (a.order ≡ b.order) × (a.bus ≡ b.bus) × (a.phase ≡ b.phase)

-- At most so many injections, each lawful, and no two of one order at one place.
pub record IsLawfulSpectrum (study : Study) (rows : List Injection) : Type 0 where
  pub few : length rows ≤ MAX_INJECTIONS
  pub each : All (IsLawfulInjection study) rows
  pub apart : AllPairs (λ a b. ¬ (AreAtOnePlace a b)) rows
