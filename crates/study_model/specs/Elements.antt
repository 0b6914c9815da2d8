-- The elements of a study by their numbers, and all names.
use Rattle.std.specs.Prelude.{ℕ, ◌-◌, ◌≤◌, List, [], ◌∷◌, ◌++◌, map, length, slice_get, Contains, IsSomeAnd}
use Rattle.study_model.specs.declared.records.Source.{Source}
use Rattle.study_model.specs.declared.records.Line.{Line}
use Rattle.study_model.specs.declared.records.Transformer.{Transformer}
use Rattle.study_model.specs.declared.records.Load.{Load}
use Rattle.study_model.specs.declared.records.Bank.{Bank}
use Rattle.study_model.specs.declared.records.Filter.{Filter}
use Rattle.study_model.specs.declared.records.Study.{Study}

-- an element of a study
pub data StudyElement : Type 0 where
  of_source : Source → StudyElement
  of_line : Line → StudyElement
  of_transformer : Transformer → StudyElement
  of_load : Load → StudyElement
  of_bank : Bank → StudyElement
  of_filter : Filter → StudyElement

-- the elements of these sections, section by section
abbrev pub elements_in : List Source → List Line → List Transformer → List Load → List Bank → List Filter → List StudyElement
elements_in sources lines transformers loads banks filters =
    map of_source sources ++ (map of_line lines ++ (map of_transformer transformers ++ (map of_load loads ++ (map of_bank banks ++ map of_filter filters))))

-- The elements of a study. The number of an element is its place among them, from 1.
abbrev pub elements_of : Study → List StudyElement
elements_of study = elements_in study.sources study.lines study.transformers study.loads study.banks study.filters

-- the name of an element
abbrev pub element_name : StudyElement → List ℕ
element_name (of_source e) = e.name
element_name (of_line e) = e.name
element_name (of_transformer e) = e.name
element_name (of_load e) = e.name
element_name (of_bank e) = e.name
element_name (of_filter e) = e.name

-- the buses that an element touches
abbrev pub element_buses : StudyElement → List ℕ
element_buses (of_source e) = e.bus ∷ []
element_buses (of_line e) = e.from ∷ e.to ∷ []
element_buses (of_transformer e) = e.from ∷ e.to ∷ []
element_buses (of_load e) = e.bus ∷ []
element_buses (of_bank e) = e.bus ∷ []
element_buses (of_filter e) = e.bus ∷ []

-- the element of this number touches the bus
abbrev pub Touches : Study → ℕ → ℕ → Type 0
Touches study number bus = (1 ≤ number) × IsSomeAnd (slice_get (elements_of study) (number - 1)) (λ e. Contains (element_buses e) bus)

-- the number of an element
abbrev pub IsElement : Study → ℕ → Type 0
IsElement study number = (1 ≤ number) × (number ≤ length (elements_of study))

-- the names of all entries that have one
abbrev pub names_of : Study → List (List ℕ)
names_of study = map (λ bus. bus.name) study.buses ++ map element_name (elements_of study)
    ++ map (λ scan. scan.name) study.scans ++ map (λ point. point.name) study.points
