-- The entries of candidates, tolerances and outages: their checks, and the records that they stand for.
use Rattle.std.specs.Prelude.{ℕ, ℤ, pos, int_le, nat_eq, Bool, not, ◌&&◌, List, [], ◌∷◌, Option, Some, None}
use Rattle.std.specs.List.{list_any}
use Rattle.toml.specs.Data.{Data, Items, no_items, item, string, integer}
use Rattle.study_model.specs.declared.fault.Place.{Place}
use Rattle.study_model.specs.declared.fault.Key.{Key}
use Rattle.study_model.specs.declared.fault.Key.TheVariants as key
use Rattle.study_model.specs.declared.fault.StudyFault.{StudyFault}
use Rattle.study_model.specs.declared.fault.StudyFault.TheVariants.{MissingKey, WrongKind, OutOfRange}
use Rattle.study_model.specs.declared.limits.TheConstants.{MAX_SIZES, MAX_PERMILLE}
use Rattle.study_model.specs.declared.range.TheConstants.Range.{ABOVE_ZERO}
use Rattle.study_model.specs.declared.records.Candidate.{Candidate}
use Rattle.study_model.specs.declared.records.Tolerance.{Tolerance}
use Rattle.study_model.specs.declared.records.Outage.{Outage}
use Rattle.study_model.specs.declared.words.StudyModel.{StudyModel}
use Rattle.study_reader.specs.Checks.{first_fault, key_of, unless, at, keys_fault, whole_in, decimal_in}
use Rattle.study_reader.specs.Groups.{in_phases}
use Rattle.study_reader.specs.Sections.{items_in}
use Rattle.study_reader.specs.Curves.{decimals_fault}
use Rattle.study_reader.specs.References.{named_fault, named_value, repeated_fault, scan_fault, scan_value}
use Rattle.study_reader.specs.declared.reference.Targets.{Targets}

-- ---- a candidate
abbrev pub decimals_in : Items → List ℤ
decimals_in no_items = []
decimals_in (item d ds) = decimal_in d ∷ decimals_in ds

-- the decimals of its sizes
unfoldable pub sizes_value : Data → List ℤ
sizes_value entry = decimals_in (items_in (at key.Sizes entry))

abbrev pub candidate_keys : List Key
candidate_keys = key.Scan ∷ key.Sizes ∷ []

-- a scan of the positive network, which earlier candidates may have too, and some sizes
unfoldable pub candidate_entry_fault : Targets → List Candidate → Place → Data → Option StudyFault
candidate_entry_fault targets earlier place entry = first_fault (
    keys_fault place place candidate_keys entry ∷
    scan_fault place targets.scans entry ∷
    decimals_fault place key.Sizes 1 MAX_SIZES ABOVE_ZERO entry ∷ [])

unfoldable pub candidate_entry : Targets → Data → Candidate
candidate_entry targets entry = record { scan = scan_value targets.scans entry; sizes = sizes_value entry }

-- ---- a tolerance
-- no text stands at the element in the phases model
abbrev pub model_found : Place → StudyModel → Option Data → Option StudyFault
model_found place model (Some (string text)) = unless (not (in_phases model)) (OutOfRange place)
model_found place model _ = None

unfoldable pub model_fault : Place → StudyModel → Data → Option StudyFault
model_fault place model entry = model_found (key_of place key.Element) model (at key.Element entry)

-- a whole number of thousandths
abbrev pub permille_of : Place → ℤ → Option StudyFault
permille_of place n = unless (int_le (pos 1) n && int_le n (pos MAX_PERMILLE)) (OutOfRange place)

abbrev pub permille_found : Place → Option Data → Option StudyFault
permille_found place None = Some (MissingKey place)
permille_found place (Some (integer n)) = permille_of place n
permille_found place (Some _) = Some (WrongKind place)

unfoldable pub permille_fault : Place → Data → Option StudyFault
permille_fault place entry = permille_found (key_of place key.Permille) (at key.Permille entry)

unfoldable pub permille_value : Data → ℕ
permille_value entry = whole_in 1 (at key.Permille entry)

-- whether a tolerance is of the element of this number
abbrev pub has_tolerance : List Tolerance → ℕ → Bool
has_tolerance earlier number = list_any (λ (tolerance : Tolerance). nat_eq tolerance.element number) earlier

abbrev pub tolerance_keys : List Key
tolerance_keys = key.Element ∷ key.Permille ∷ []

-- an element that no earlier tolerance is of, in the sequence model alone
unfoldable pub tolerance_entry_fault : Targets → List Tolerance → Place → Data → Option StudyFault
tolerance_entry_fault targets earlier place entry = first_fault (
    keys_fault place place tolerance_keys entry ∷
    model_fault place targets.model entry ∷
    named_fault place targets.elements entry ∷
    repeated_fault place (has_tolerance earlier (named_value targets.elements entry)) ∷
    permille_fault place entry ∷ [])

unfoldable pub tolerance_entry : Targets → Data → Tolerance
tolerance_entry targets entry = record { element = named_value targets.elements entry; permille = permille_value entry }

-- ---- an outage
-- whether an outage is of the element of this number
abbrev pub has_outage : List Outage → ℕ → Bool
has_outage earlier number = list_any (λ (outage : Outage). nat_eq outage.element number) earlier

abbrev pub outage_keys : List Key
outage_keys = key.Element ∷ []

-- an element that no earlier outage is of
unfoldable pub outage_entry_fault : Targets → List Outage → Place → Data → Option StudyFault
outage_entry_fault targets earlier place entry = first_fault (
    keys_fault place place outage_keys entry ∷
    named_fault place targets.elements entry ∷
    repeated_fault place (has_outage earlier (named_value targets.elements entry)) ∷ [])

unfoldable pub outage_entry : Targets → Data → Outage
outage_entry targets entry = record { element = named_value targets.elements entry }
