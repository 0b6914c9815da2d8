-- The entry of a point of common coupling: its checks, and the record that it stands for.
use Rattle.std.specs.Prelude.{ℕ, ◌+◌, nat_eq, Bool, ◌&&◌, ◌||◌, if◌then◌else◌, is_some, unwrap_or, List, [], ◌∷◌, Option, Some, None}
use Rattle.std.specs.Str.{bytes_eq}
use Rattle.toml.specs.Data.{Data, string}
use Rattle.study_model.specs.NameText.{is_name}
use Rattle.study_model.specs.declared.fault.Place.{Place}
use Rattle.study_model.specs.declared.fault.Key.{Key}
use Rattle.study_model.specs.declared.fault.Key.TheVariants as key
use Rattle.study_model.specs.declared.fault.StudyFault.{StudyFault}
use Rattle.study_model.specs.declared.fault.StudyFault.TheVariants.{MissingKey, WrongKind, BadName, UnknownElement}
use Rattle.study_model.specs.declared.range.TheConstants.Range.{AMPERES}
use Rattle.study_model.specs.declared.records.Pcc.{Pcc}
use Rattle.study_reader.specs.Checks.{first_fault, key_of, at, unless, text_in, keys_fault, name_fault, name_value, bus_fault, bus_value, decimal_fault, decimal_value}
use Rattle.study_reader.specs.declared.context.Context.{Context}
use Rattle.study_reader.specs.declared.context.Element.{Element}

-- an element has this name and touches this bus
abbrev pub is_element : List ℕ → ℕ → Element → Bool
is_element name bus e = bytes_eq e.name name && (nat_eq e.from bus || nat_eq e.to bus)

-- the number of the element of a name that touches a bus, from this number on
abbrev pub element_at : ℕ → List Element → List ℕ → ℕ → Option ℕ
element_at n [] name bus = None
element_at n (e ∷ es) name bus = if is_element name bus e then Some n else element_at (n + 1) es name bus

abbrev pub element_found : Place → List Element → ℕ → Option Data → Option StudyFault
element_found place elements bus None = Some (MissingKey place)
element_found place elements bus (Some (string text)) = if is_name text then unless (is_some (element_at 1 elements text bus)) (UnknownElement place) else Some (BadName place)
element_found place elements bus (Some _) = Some (WrongKind place)

-- the name of an element that touches the bus
unfoldable pub element_fault : Place → List Element → ℕ → Data → Option StudyFault
element_fault place elements bus entry = element_found (key_of place key.Element) elements bus (at key.Element entry)

-- its number, from 1 in the order of the sections
unfoldable pub element_value : List Element → ℕ → Data → ℕ
element_value elements bus entry = unwrap_or (element_at 1 elements (text_in (at key.Element entry)) bus) 0

abbrev pub point_keys : List Key
point_keys = key.Name ∷ key.Bus ∷ key.Element ∷ key.Isc ∷ key.Il ∷ []

unfoldable pub point_entry_fault : Context → List (List ℕ) → Place → Data → Option StudyFault
point_entry_fault context earlier place entry = first_fault (
    keys_fault place place point_keys entry ∷
    name_fault place earlier entry ∷
    bus_fault place key.Bus context.buses entry ∷
    element_fault place context.elements (bus_value key.Bus context.buses entry) entry ∷
    decimal_fault place key.Isc AMPERES entry ∷
    decimal_fault place key.Il AMPERES entry ∷ [])

unfoldable pub point_entry : Context → Data → Pcc
point_entry context entry = record {
  name = name_value entry;
  bus = bus_value key.Bus context.buses entry;
  element = element_value context.elements (bus_value key.Bus context.buses entry) entry;
  isc = decimal_value key.Isc entry;
  il = decimal_value key.Il entry;
}
