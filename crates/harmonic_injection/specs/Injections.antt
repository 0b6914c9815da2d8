-- The injections of an order, at the nodes of a network and in per unit.
use Rattle.std.specs.Prelude.{ℕ, ℤ, ◌*◌, ◌*ℤ◌, ◌^◌, ◌≤◌, nat_eq, unsigned_abs, List, map, length, All}
use Rattle.std.specs.List.{filter}
use Rattle.exact_algebra.specs.Ratio.{Ratio, over}
use Rattle.node_injection.specs.Injected.{ExactInjection}
use Rattle.element_parts.specs.Phases.{phase_node}
use Rattle.study_model.specs.Lawful.{IsBus}
use Rattle.study_model.specs.Voltages.{kv_of}
use Rattle.study_model.specs.declared.words.StudyModel.{StudyModel}
use Rattle.study_model.specs.declared.words.StudyModel.TheVariants as study_model
use Rattle.study_model.specs.declared.records.Study.{Study}
use Rattle.spectrum_reader.specs.Lawful.{IsPhaseOf}
use Rattle.spectrum_reader.specs.declared.injection.Injection.{Injection}
use Rattle.spectrum_reader.specs.declared.injection.TheConstants.{MAX_INJECTIONS}

-- the node of a bus, or of a phase of a bus
unfoldable pub node_of : StudyModel → ℕ → ℕ → ℕ
node_of study_model.Sequence bus phase = bus
node_of study_model.Phases bus phase = phase_node bus phase

-- a current of i amperes at v kV, for a base of s MVA, all in millionths: i·v/(s·10^9)
unfoldable pub current_per_unit : ℤ → ℤ → ℤ → Ratio
current_per_unit i v s = over (i *ℤ v) (unsigned_abs s * 10 ^ 9)

-- the injection of a row
unfoldable pub injection_of : Study → Injection → ExactInjection
injection_of study row = record {
  node = node_of study.model row.bus row.phase;
  re = current_per_unit row.re (kv_of study.buses row.bus) study.mva;
  im = current_per_unit row.im (kv_of study.buses row.bus) study.mva;
}

-- the injections of an order: those of its rows, in the order of the rows
unfoldable pub injections_of : Study → List Injection → ℕ → List ExactInjection
injections_of study rows order = map (injection_of study) (filter (λ row. nat_eq row.order order) rows)

-- What the rows of a spectrum have to meet: at most so many, each at a bus of the study and a phase of its model.
pub record AreInStudy (study : Study) (rows : List Injection) : Type 0 where
  pub few : length rows ≤ MAX_INJECTIONS
  pub buses : All (λ row. IsBus study.buses row.bus) rows
  pub phases : All (λ row. IsPhaseOf study.model row.phase) rows
