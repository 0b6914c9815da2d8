-- The sections of a document, and the entries of their arrays.
use Rattle.std.specs.Prelude.{ℕ, ◌+◌, true, false, Bool, nat_le, ◌&&◌, ◌||◌, List, [], ◌∷◌, ◌++◌, Option, Some, None}
use Rattle.std.specs.Str.{bytes_eq}
use Rattle.toml.specs.Data.{Data, Items, no_items, item, Members, no_members, member, get, string, integer, float, boolean, datetime, array, table}
use Rattle.study_model.specs.Words.{section_text}
use Rattle.study_model.specs.declared.fault.Place.{Place}
use Rattle.study_model.specs.declared.fault.Section.{Section}
use Rattle.study_model.specs.declared.fault.Section.TheVariants as section
use Rattle.study_model.specs.declared.fault.Key.TheVariants as key
use Rattle.study_model.specs.declared.fault.StudyFault.{StudyFault}
use Rattle.study_model.specs.declared.fault.StudyFault.TheVariants.{MissingKey, UnknownKey, WrongKind, TooMany}
use Rattle.study_reader.specs.Checks.{first_fault, place_of, unless, name_value}
use Rattle.study_reader.specs.declared.arrays.Occurrence.{Occurrence}
use Rattle.study_reader.specs.declared.context.Context.{Context}

-- the word of a section that is listed
abbrev pub is_section : List Section → List ℕ → Bool
is_section [] name = false
is_section (s ∷ sections) name = bytes_eq (section_text s) name || is_section sections name

-- every key of a document is the word of one of these sections
abbrev pub are_sections : List Section → Members → Bool
are_sections sections no_members = true
are_sections sections (member name value rest) = is_section sections name && are_sections sections rest

-- the sections that a study may have
abbrev pub all_sections : List Section
all_sections = section.Study ∷ section.Bus ∷ section.Source ∷ section.Line ∷ section.Transformer ∷ section.Load ∷ section.Bank ∷ section.Filter ∷ section.Scan ∷ section.Pcc ∷ section.Candidate ∷ section.Tolerance ∷ section.Outage ∷ []

-- a document has no section that isn't one of them
unfoldable pub top_fault : Members → Option StudyFault
top_fault ms = unless (are_sections all_sections ms) (UnknownKey (place_of section.Top 0 key.Nothing))

-- the value at the word of a section
abbrev pub section_in : Section → Data → Option Data
section_in at document = get (section_text at) document

abbrev pub count_items : Items → ℕ
count_items no_items = 0
count_items (item d ds) = count_items ds + 1

-- a count between two limits
abbrev pub count_fault : Place → ℕ → ℕ → ℕ → Option StudyFault
count_fault place least most count = first_fault (unless (nat_le least count) (MissingKey place) ∷ unless (nat_le count most) (TooMany place) ∷ [])

-- the kind and the count of an array that is there
abbrev pub array_check : Occurrence → Data → Option StudyFault
array_check o (array ds) = count_fault (place_of o.section 0 key.Nothing) o.least o.most (count_items ds)
array_check o (string s) = Some (WrongKind (place_of o.section 0 key.Nothing))
array_check o (integer z) = Some (WrongKind (place_of o.section 0 key.Nothing))
array_check o (float x) = Some (WrongKind (place_of o.section 0 key.Nothing))
array_check o (boolean b) = Some (WrongKind (place_of o.section 0 key.Nothing))
array_check o (datetime t) = Some (WrongKind (place_of o.section 0 key.Nothing))
array_check o (table ms) = Some (WrongKind (place_of o.section 0 key.Nothing))

-- the presence, the kind and the count of an array
abbrev pub array_fault : Occurrence → Option Data → Option StudyFault
array_fault o None = unless o.optional (MissingKey (place_of o.section 0 key.Nothing))
array_fault o (Some value) = array_check o value

-- the items of an array
abbrev pub items_in : Option Data → Items
items_in (Some (array ds)) = ds
items_in _ = no_items

-- the faults of entries one after another, each beside the names before it
abbrev pub entries_fault : (Context → List (List ℕ) → Place → Data → Option StudyFault) → Context → Section → List (List ℕ) → ℕ → Items → Option StudyFault
entries_fault fault context at earlier n no_items = None
entries_fault fault context at earlier n (item d ds) =
    first_fault (fault context earlier (place_of at n key.Nothing) d ∷ entries_fault fault context at (earlier ++ name_value d ∷ []) (n + 1) ds ∷ [])

-- the records of entries
abbrev pub entries_of : {A : Type 0} → (Data → A) → Items → List A
entries_of value no_items = []
entries_of value (item d ds) = value d ∷ entries_of value ds

-- the faults of a section: its array's, and then its entries'
unfoldable pub section_fault : (Context → List (List ℕ) → Place → Data → Option StudyFault) → Occurrence → Context → List (List ℕ) → Data → Option StudyFault
section_fault fault o context earlier document = first_fault (
    array_fault o (section_in o.section document) ∷
    entries_fault fault context o.section earlier 1 (items_in (section_in o.section document)) ∷ [])

-- the records of a section
unfoldable pub section_value : {A : Type 0} → (Data → A) → Section → Data → List A
section_value value at document = entries_of value (items_in (section_in at document))

-- the names of a section
unfoldable pub section_names : Section → Data → List (List ℕ)
section_names at document = entries_of name_value (items_in (section_in at document))
