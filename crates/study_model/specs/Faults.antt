-- What is printed of a fault.
use Rattle.std.specs.Prelude.{ℕ, List, codes, Option, Some, None}
use Rattle.study_model.specs.declared.fault.Place.{Place}
use Rattle.study_model.specs.declared.fault.StudyFault.{StudyFault}
use Rattle.study_model.specs.declared.fault.StudyFault.TheVariants.{NotToml, VersionUnknown, MissingKey, UnknownKey, WrongKind, BareDecimal, BadDecimal, OutOfRange, BadName, DuplicateName, UnknownBus, TooMany, BadBand, TooFine, Floating, PhaseFloating, UnknownElement, UnknownScan, NoMemory}

-- A fault's number, which the want of memory lacks, its name and its place.
pub record Printed : Type 0 where
  pub number : Option ℕ
  pub name : List ℕ
  pub place : Option Place

-- what is printed of a fault with a number
abbrev pub row : ℕ → List ℕ → Option Place → Printed
row number name place = record { number = Some number; name = name; place = place }

-- each fault's number, name and place, in the order of the numbers
abbrev pub printed_of : StudyFault → Printed
printed_of NotToml = row 1 (codes "NotToml") None
printed_of VersionUnknown = row 2 (codes "VersionUnknown") None
printed_of (MissingKey place) = row 3 (codes "MissingKey") (Some place)
printed_of (UnknownKey place) = row 4 (codes "UnknownKey") (Some place)
printed_of (WrongKind place) = row 5 (codes "WrongKind") (Some place)
printed_of (BareDecimal place) = row 6 (codes "BareDecimal") (Some place)
printed_of (BadDecimal place) = row 7 (codes "BadDecimal") (Some place)
printed_of (OutOfRange place) = row 8 (codes "OutOfRange") (Some place)
printed_of (BadName place) = row 9 (codes "BadName") (Some place)
printed_of (DuplicateName place) = row 10 (codes "DuplicateName") (Some place)
printed_of (UnknownBus place) = row 11 (codes "UnknownBus") (Some place)
printed_of (TooMany place) = row 12 (codes "TooMany") (Some place)
printed_of (BadBand place) = row 13 (codes "BadBand") (Some place)
printed_of (TooFine place) = row 14 (codes "TooFine") (Some place)
printed_of (Floating place) = row 15 (codes "Floating") (Some place)
printed_of (PhaseFloating place) = row 16 (codes "PhaseFloating") (Some place)
printed_of (UnknownElement place) = row 18 (codes "UnknownElement") (Some place)
printed_of (UnknownScan place) = row 19 (codes "UnknownScan") (Some place)
printed_of NoMemory = record { number = None; name = codes "NoMemory"; place = None }

-- the number
abbrev pub fault_number : StudyFault → Option ℕ
fault_number fault = (printed_of fault).number

-- the name
abbrev pub fault_name : StudyFault → List ℕ
fault_name fault = (printed_of fault).name

-- the place
abbrev pub fault_place : StudyFault → Option Place
fault_place fault = (printed_of fault).place
