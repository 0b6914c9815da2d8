-- What holds of the parts of a study that are read.
use Rattle.std.specs.Prelude.{◌≡◌, ◌≢◌, ◌⊎◌, ◌≤◌, ◌-◌, ℕ, List, map, length, slice_get, All, AllPairs, IsSomeAnd}
use Rattle.study_model.specs.Range.{IsIn}
use Rattle.study_model.specs.Elements.{elements_in, element_name}
use Rattle.study_model.specs.Lawful.{IsName, IsBus, IsPositiveScan, IsLawfulSource, IsLawfulLine, IsLawfulTransformer, IsLawfulLoad, IsLawfulBank, IsLawfulFilter}
use Rattle.study_model.specs.declared.limits.TheConstants.{MAX_ELEMENTS, MAX_CANDIDATES, MAX_SIZES, MAX_TOLERANCES, MAX_PERMILLE, MAX_OUTAGES}
use Rattle.study_model.specs.declared.range.TheConstants.Range.{ABOVE_ZERO, BASE_MVA, HERTZ, ROOT3, AMPERES}
use Rattle.study_model.specs.declared.records.Bus.{Bus}
use Rattle.study_model.specs.declared.records.Pcc.{Pcc}
use Rattle.study_model.specs.declared.records.Candidate.{Candidate}
use Rattle.study_model.specs.declared.records.Tolerance.{Tolerance}
use Rattle.study_model.specs.declared.records.Outage.{Outage}
use Rattle.study_model.specs.declared.words.StudyModel.{StudyModel}
use Rattle.study_model.specs.declared.words.StudyModel.TheVariants as study_model
use Rattle.study_reader.specs.declared.context.Context.{Context}
use Rattle.study_reader.specs.declared.context.Element.{Element}
use Rattle.study_reader.specs.declared.header.Header.{Header}
use Rattle.study_reader.specs.declared.reference.Targets.{Targets}
use Rattle.study_reader.specs.declared.study.Plant.{Plant}
use Rattle.study_reader.specs.declared.variants.Variants.{Variants}

-- a name that no earlier entry has
pub record IsFresh (earlier : List (List ℕ)) (name : List ℕ) : Type 0 where
  pub differs : All (λ other. other ≢ name) earlier

-- an element has an end at a bus
abbrev pub Ends : ℕ → Element → Type 0
Ends bus e = (e.from ≡ bus) ⊎ (e.to ≡ bus)

-- the element of this number, from 1, has an end at a bus
pub record Reaches (elements : List Element) (bus number : ℕ) : Type 0 where
  pub counted : 1 ≤ number
  pub ends : IsSomeAnd (slice_get elements (number - 1)) (Ends bus)

-- the keys of the study as a whole
pub record IsLawfulHeader (header : Header) : Type 0 where
  pub version : (header.version ≡ 1) ⊎ (header.version ≡ 2)
  pub mva : IsIn BASE_MVA header.mva
  pub hz : IsIn HERTZ header.hz
  pub scale : (header.scale ≡ 40) ⊎ (header.scale ≡ 48)
  pub root3 : IsIn ROOT3 header.root3

-- a point beside the elements that it may name
pub record IsLawfulPoint (context : Context) (point : Pcc) : Type 0 where
  pub name : IsName point.name
  pub bus : IsBus context.buses point.bus
  pub element : Reaches context.elements point.bus point.element
  pub isc : IsIn AMPERES point.isc
  pub il : IsIn AMPERES point.il

-- the elements beside the buses
pub record IsLawfulPlant (model : StudyModel) (buses : List Bus) (plant : Plant) : Type 0 where
  pub sources_count : length plant.sources ≤ MAX_ELEMENTS
  pub sources : All (IsLawfulSource buses) plant.sources
  pub lines_count : length plant.lines ≤ MAX_ELEMENTS
  pub lines : All (IsLawfulLine model buses) plant.lines
  pub transformers_count : length plant.transformers ≤ MAX_ELEMENTS
  pub transformers : All (IsLawfulTransformer buses) plant.transformers
  pub loads_count : length plant.loads ≤ MAX_ELEMENTS
  pub loads : All (IsLawfulLoad model buses) plant.loads
  pub banks_count : length plant.banks ≤ MAX_ELEMENTS
  pub banks : All (IsLawfulBank model buses) plant.banks
  pub filters_count : length plant.filters ≤ MAX_ELEMENTS
  pub filters : All (IsLawfulFilter model buses) plant.filters

-- the names of the elements, in the order of their numbers
abbrev pub names_in : Plant → List (List ℕ)
names_in plant = map element_name (elements_in plant.sources plant.lines plant.transformers plant.loads plant.banks plant.filters)

-- the number of an element, from 1
pub record IsNumbered (elements : List Element) (number : ℕ) : Type 0 where
  pub least : 1 ≤ number
  pub most : number ≤ length elements

-- a candidate beside the scans that it may name
pub record IsReadCandidate (targets : Targets) (candidate : Candidate) : Type 0 where
  pub scan : IsPositiveScan targets.scans candidate.scan
  pub sizes_count : (1 ≤ length candidate.sizes) × (length candidate.sizes ≤ MAX_SIZES)
  pub sizes : All (IsIn ABOVE_ZERO) candidate.sizes

-- a tolerance beside the elements that it may name
pub record IsReadTolerance (targets : Targets) (tolerance : Tolerance) : Type 0 where
  pub model : targets.model ≡ study_model.Sequence
  pub element : IsNumbered targets.elements tolerance.element
  pub permille : (1 ≤ tolerance.permille) × (tolerance.permille ≤ MAX_PERMILLE)

-- an outage beside the elements that it may name
pub record IsReadOutage (targets : Targets) (outage : Outage) : Type 0 where
  pub element : IsNumbered targets.elements outage.element

-- candidates, tolerances and outages beside what they may name
pub record AreLawfulVariants (targets : Targets) (variants : Variants) : Type 0 where
  pub candidates_count : length variants.candidates ≤ MAX_CANDIDATES
  pub candidates : All (IsReadCandidate targets) variants.candidates
  pub tolerances_count : length variants.tolerances ≤ MAX_TOLERANCES
  pub tolerances : All (IsReadTolerance targets) variants.tolerances
  pub tolerances_differ : AllPairs ◌≢◌ (map (λ tolerance. tolerance.element) variants.tolerances)
  pub outages_count : length variants.outages ≤ MAX_OUTAGES
  pub outages : All (IsReadOutage targets) variants.outages
  pub outages_differ : AllPairs ◌≢◌ (map (λ outage. outage.element) variants.outages)
