-- The study that a document stands for, or its first fault.
use Rattle.std.specs.Prelude.{◌≡◌, ℕ, true, false, List, [], ◌∷◌, ◌++◌, map, Option, Some, None}
use Rattle.std.specs.Str.{IsUtf8}
use Rattle.toml.specs.Data.{Data, Members, table}
use Rattle.toml.specs.Parse.{parse_document}
use Rattle.study_model.specs.Elements.{StudyElement, of_source, of_line, of_transformer, of_load, of_bank, of_filter, elements_in}
use Rattle.study_model.specs.declared.limits.TheConstants.{MAX_BUSES, MAX_ELEMENTS, MAX_SCANS, MAX_POINTS, MAX_CANDIDATES, MAX_TOLERANCES, MAX_OUTAGES}
use Rattle.study_model.specs.declared.fault.Section.{Section}
use Rattle.study_model.specs.declared.fault.Section.TheVariants as section
use Rattle.study_model.specs.declared.fault.StudyFault.{StudyFault}
use Rattle.study_model.specs.declared.fault.StudyFault.TheVariants.{NotToml}
use Rattle.study_model.specs.declared.records.Study.{Study}
use Rattle.study_reader.specs.Checks.{first_fault}
use Rattle.study_reader.specs.Header.{study_section_fault, study_section_value}
use Rattle.study_reader.specs.Sections.{section_in, top_fault, section_fault, section_value, section_names}
use Rattle.study_reader.specs.Entries.{bus_entry_fault, bus_entry, source_entry_fault, source_entry, bank_entry_fault, bank_entry, filter_entry_fault, filter_entry, scan_entry_fault, scan_entry}
use Rattle.study_reader.specs.Branches.{line_entry_fault, line_entry, transformer_entry_fault, transformer_entry}
use Rattle.study_reader.specs.Loads.{load_entry_fault, load_entry}
use Rattle.study_reader.specs.Points.{point_entry_fault, point_entry}
use Rattle.study_reader.specs.References.{reference_section_fault}
use Rattle.study_reader.specs.Variants.{candidate_entry_fault, candidate_entry, tolerance_entry_fault, tolerance_entry, outage_entry_fault, outage_entry}
use Rattle.study_reader.specs.declared.arrays.Occurrence.{Occurrence}
use Rattle.study_reader.specs.declared.context.Context.{Context}
use Rattle.study_reader.specs.declared.context.Element.{Element}
use Rattle.study_reader.specs.declared.reference.Targets.{Targets}
use Rattle.study_reader.specs.declared.study.Plant.{Plant}
use Rattle.study_reader.specs.declared.variants.Variants.{Variants}

-- a section that may be absent, of at most so many entries
abbrev pub at_most : Section → ℕ → Occurrence
at_most at most = record { section = at; optional = true; least = 0; most = most }

-- the section of buses, which has to be there
abbrev pub some_buses : Occurrence
some_buses = record { section = section.Bus; optional = false; least = 1; most = MAX_BUSES }

-- what the buses are read beside: the version and the model of the study
abbrev pub before_buses : Data → Context
before_buses document = let header = study_section_value (section_in section.Study document) in record { version = header.version; model = header.model; buses = []; elements = [] }

-- what the sections after the buses are read beside
unfoldable pub context_of : Data → Context
context_of document = let header = study_section_value (section_in section.Study document) in record { version = header.version; model = header.model; buses = section_value (bus_entry (before_buses document)) section.Bus document; elements = [] }

-- the checks of the elements in the order of their sections, beside the names before them
unfoldable pub plant_fault : Context → List (List ℕ) → Data → Option StudyFault
plant_fault context buses document =
    let sources = buses ++ section_names section.Source document in
    let lines = sources ++ section_names section.Line document in
    let transformers = lines ++ section_names section.Transformer document in
    let loads = transformers ++ section_names section.Load document in
    let banks = loads ++ section_names section.Bank document in
    first_fault (
    section_fault source_entry_fault (at_most section.Source MAX_ELEMENTS) context buses document ∷
    section_fault line_entry_fault (at_most section.Line MAX_ELEMENTS) context sources document ∷
    section_fault transformer_entry_fault (at_most section.Transformer MAX_ELEMENTS) context lines document ∷
    section_fault load_entry_fault (at_most section.Load MAX_ELEMENTS) context transformers document ∷
    section_fault bank_entry_fault (at_most section.Bank MAX_ELEMENTS) context loads document ∷
    section_fault filter_entry_fault (at_most section.Filter MAX_ELEMENTS) context banks document ∷ [])

-- the names of buses and elements, in the order of their sections
unfoldable pub plant_names : List (List ℕ) → Data → List (List ℕ)
plant_names buses document = buses ++ section_names section.Source document ++ section_names section.Line document
    ++ section_names section.Transformer document ++ section_names section.Load document
    ++ section_names section.Bank document ++ section_names section.Filter document

unfoldable pub plant_value : Context → Data → Plant
plant_value context document = record {
  sources = section_value (source_entry context) section.Source document;
  lines = section_value (line_entry context) section.Line document;
  transformers = section_value (transformer_entry context) section.Transformer document;
  loads = section_value (load_entry context) section.Load document;
  banks = section_value (bank_entry context) section.Bank document;
  filters = section_value (filter_entry context) section.Filter document;
}

-- an element as a point finds it: its name, and the buses at its ends
abbrev pub at_bus : List ℕ → ℕ → Element
at_bus name bus = record { name = name; from = bus; to = bus }

abbrev pub ends_of : StudyElement → Element
ends_of (of_source e) = at_bus e.name e.bus
ends_of (of_line e) = record { name = e.name; from = e.from; to = e.to }
ends_of (of_transformer e) = record { name = e.name; from = e.from; to = e.to }
ends_of (of_load e) = at_bus e.name e.bus
ends_of (of_bank e) = at_bus e.name e.bus
ends_of (of_filter e) = at_bus e.name e.bus

-- the elements of a plant, in the order of their numbers
unfoldable pub plant_elements : Plant → List Element
plant_elements plant = map ends_of (elements_in plant.sources plant.lines plant.transformers plant.loads plant.banks plant.filters)

-- what the points are read beside
unfoldable pub with_elements : Context → Plant → Context
with_elements context plant = record { version = context.version; model = context.model; buses = context.buses; elements = plant_elements plant }

-- the elements and the scans that the sections after the points may refer to
unfoldable pub targets_of : Data → Targets
targets_of document = let context = context_of document in record {
  model = context.model;
  elements = plant_elements (plant_value context document);
  scans = section_value (scan_entry context) section.Scan document;
}

-- the checks of candidates, tolerances and outages
unfoldable pub variants_fault : Targets → Data → Option StudyFault
variants_fault targets document = first_fault (
    reference_section_fault candidate_entry_fault candidate_entry (at_most section.Candidate MAX_CANDIDATES) targets document ∷
    reference_section_fault tolerance_entry_fault tolerance_entry (at_most section.Tolerance MAX_TOLERANCES) targets document ∷
    reference_section_fault outage_entry_fault outage_entry (at_most section.Outage MAX_OUTAGES) targets document ∷ [])

unfoldable pub variants_value : Targets → Data → Variants
variants_value targets document = record {
  candidates = section_value (candidate_entry targets) section.Candidate document;
  tolerances = section_value (tolerance_entry targets) section.Tolerance document;
  outages = section_value (outage_entry targets) section.Outage document;
}

-- the checks of the sections in order
unfoldable pub sections_fault : Data → Option StudyFault
sections_fault document =
    let buses = section_names section.Bus document in
    first_fault (
    study_section_fault (section_in section.Study document) ∷
    section_fault bus_entry_fault some_buses (before_buses document) [] document ∷
    plant_fault (context_of document) buses document ∷
    section_fault scan_entry_fault (at_most section.Scan MAX_SCANS) (context_of document) (plant_names buses document) document ∷
    section_fault point_entry_fault (at_most section.Pcc MAX_POINTS) (with_elements (context_of document) (plant_value (context_of document) document))
    (plant_names buses document ++ section_names section.Scan document) document ∷
    variants_fault (targets_of document) document ∷ [])

-- the study of a document without a fault
unfoldable pub study_value : Data → Study
study_value document =
    let header = study_section_value (section_in section.Study document) in
    let context = context_of document in
    let plant = plant_value context document in
    let variants = variants_value (targets_of document) document in record {
      version = header.version;
      mva = header.mva;
      hz = header.hz;
      model = header.model;
      scale = header.scale;
      method = header.method;
      root3 = header.root3;
      buses = context.buses;
      sources = plant.sources;
      lines = plant.lines;
      transformers = plant.transformers;
      loads = plant.loads;
      banks = plant.banks;
      filters = plant.filters;
      scans = section_value (scan_entry context) section.Scan document;
      points = section_value (point_entry (with_elements context plant)) section.Pcc document;
      candidates = variants.candidates;
      tolerances = variants.tolerances;
      outages = variants.outages;
    }

-- all checks of a document: its sections' words, and its sections in order
unfoldable pub study_fault : Members → Option StudyFault
study_fault ms = first_fault (
    top_fault ms ∷
    sections_fault (table ms) ∷ [])

-- the table that the grammar gives the bytes
abbrev pub HasTable : List ℕ → Members → Type 0
HasTable bytes ms = IsUtf8 bytes × (parse_document bytes ≡ Some ms)

-- why bytes are refused: they have no table, or a table whose first fault this is
pub data Refused (bytes : List ℕ) : StudyFault → Type 0 where
  no_table : ((ms : Members) → HasTable bytes ms → ⊥) → Refused bytes NotToml
  first : (ms : Members) (fault : StudyFault) → HasTable bytes ms → study_fault ms ≡ Some fault → Refused bytes fault

-- the study that the bytes are
pub record IsStudy (bytes : List ℕ) (study : Study) : Type 0 where
  pub ms : Members
  pub given : HasTable bytes ms
  pub sound : study_fault ms ≡ None
  pub is : study ≡ study_value (table ms)
