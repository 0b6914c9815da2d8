-- Entries that have no name of their own, and refer to a scan or to an element by its name.
use Rattle.std.specs.Prelude.{ℕ, ◌+◌, Bool, true, false, not, ◌&&◌, if◌then◌else◌, is_some, unwrap_or, List, [], ◌∷◌, ◌++◌, Option, Some, None}
use Rattle.std.specs.Str.{bytes_eq}
use Rattle.toml.specs.Data.{Data, string, Items, no_items, item}
use Rattle.study_model.specs.NameText.{is_name}
use Rattle.study_model.specs.declared.fault.Place.{Place}
use Rattle.study_model.specs.declared.fault.Section.{Section}
use Rattle.study_model.specs.declared.fault.Key.TheVariants as key
use Rattle.study_model.specs.declared.fault.StudyFault.{StudyFault}
use Rattle.study_model.specs.declared.fault.StudyFault.TheVariants.{MissingKey, WrongKind, OutOfRange, BadName, UnknownElement, UnknownScan}
use Rattle.study_model.specs.declared.records.ScanItem.{ScanItem}
use Rattle.study_model.specs.declared.words.Sequence.{Sequence}
use Rattle.study_model.specs.declared.words.Sequence.TheVariants as sequence
use Rattle.study_reader.specs.Checks.{first_fault, key_of, place_of, unless, at, text_in}
use Rattle.study_reader.specs.Sections.{array_fault, items_in, section_in}
use Rattle.study_reader.specs.declared.arrays.Occurrence.{Occurrence}
use Rattle.study_reader.specs.declared.context.Element.{Element}
use Rattle.study_reader.specs.declared.reference.Targets.{Targets}

-- ---- an element by its name
-- the number of the element of a name, from this number on
abbrev pub named_at : ℕ → List Element → List ℕ → Option ℕ
named_at n [] name = None
named_at n (e ∷ es) name = if bytes_eq e.name name then Some n else named_at (n + 1) es name

abbrev pub named_found : Place → List Element → Option Data → Option StudyFault
named_found place elements None = Some (MissingKey place)
named_found place elements (Some (string text)) = if is_name text then unless (is_some (named_at 1 elements text)) (UnknownElement place) else Some (BadName place)
named_found place elements (Some _) = Some (WrongKind place)

-- the name of an element
unfoldable pub named_fault : Place → List Element → Data → Option StudyFault
named_fault place elements entry = named_found (key_of place key.Element) elements (at key.Element entry)

-- its number, from 1 in the order of the sections
unfoldable pub named_value : List Element → Data → ℕ
named_value elements entry = unwrap_or (named_at 1 elements (text_in (at key.Element entry))) 0

-- no earlier entry is of the element
unfoldable pub repeated_fault : Place → Bool → Option StudyFault
repeated_fault place repeated = unless (not repeated) (OutOfRange (key_of place key.Element))

-- ---- a scan by its name
-- the number of the scan of a name, from this number on
abbrev pub scan_at : ℕ → List ScanItem → List ℕ → Option ℕ
scan_at n [] name = None
scan_at n (scan ∷ scans) name = if bytes_eq scan.name name then Some n else scan_at (n + 1) scans name

-- the scan of a name
abbrev pub scan_of : List ScanItem → List ℕ → Option ScanItem
scan_of [] name = None
scan_of (scan ∷ scans) name = if bytes_eq scan.name name then Some scan else scan_of scans name

abbrev pub is_positive : Sequence → Bool
is_positive sequence.Positive = true
is_positive sequence.Zero = false

-- a scan of the positive network, and of no phase
abbrev pub positive_fault : Place → Option ScanItem → Option StudyFault
positive_fault place None = Some (UnknownScan place)
positive_fault place (Some scan) = unless (is_positive scan.network && not (is_some scan.phase)) (OutOfRange place)

abbrev pub scan_found : Place → List ScanItem → Option Data → Option StudyFault
scan_found place scans None = Some (MissingKey place)
scan_found place scans (Some (string text)) = if is_name text then positive_fault place (scan_of scans text) else Some (BadName place)
scan_found place scans (Some _) = Some (WrongKind place)

-- the name of a scan of the positive network
unfoldable pub scan_fault : Place → List ScanItem → Data → Option StudyFault
scan_fault place scans entry = scan_found (key_of place key.Scan) scans (at key.Scan entry)

-- its number, from 1
unfoldable pub scan_value : List ScanItem → Data → ℕ
scan_value scans entry = unwrap_or (scan_at 1 scans (text_in (at key.Scan entry))) 0

-- ---- the entries of a section
-- the faults of entries one after another, each beside the entries before it
abbrev pub references_fault : {A : Type 0} → (Targets → List A → Place → Data → Option StudyFault) → (Targets → Data → A) → Targets → Section → List A → ℕ → Items → Option StudyFault
references_fault fault value targets at earlier n no_items = None
references_fault fault value targets at earlier n (item d ds) =
    first_fault (fault targets earlier (place_of at n key.Nothing) d ∷ references_fault fault value targets at (earlier ++ value targets d ∷ []) (n + 1) ds ∷ [])

-- the faults of a section: its array's, and then its entries'
unfoldable pub reference_section_fault : {A : Type 0} → (Targets → List A → Place → Data → Option StudyFault) → (Targets → Data → A) → Occurrence → Targets → Data → Option StudyFault
reference_section_fault fault value o targets document = first_fault (
    array_fault o (section_in o.section document) ∷
    references_fault fault value targets o.section [] 1 (items_in (section_in o.section document)) ∷ [])
