-- The entries of each section: their checks, and the records that they stand for.
use Rattle.std.specs.Prelude.{ℕ, ℤ, pos, ◌-ℤ◌, ◌*ℤ◌, int_lt, int_le, true, false, not, if◌then◌else◌, List, [], ◌∷◌, Option, unwrap_or, codes}
use Rattle.toml.specs.Data.{Data}
use Rattle.study_model.specs.ValueWords.{sequence_of, phase_of, filter_kind_of}
use Rattle.study_model.specs.declared.fault.Place.{Place}
use Rattle.study_model.specs.declared.fault.Key.{Key}
use Rattle.study_model.specs.declared.fault.Key.TheVariants as key
use Rattle.study_model.specs.declared.fault.StudyFault.{StudyFault}
use Rattle.study_model.specs.declared.fault.StudyFault.TheVariants.{BadBand, TooFine}
use Rattle.study_model.specs.declared.limits.TheConstants.{MAX_WIDTHS}
use Rattle.study_model.specs.declared.range.TheConstants.Range.{ABOVE_ZERO, BUS_KV, TUNED_ORDER, QUALITY, BAND, FINEST, LOCATE}
use Rattle.study_model.specs.declared.records.Bus.{Bus}
use Rattle.study_model.specs.declared.records.Source.{Source}
use Rattle.study_model.specs.declared.records.Bank.{Bank}
use Rattle.study_model.specs.declared.records.Filter.{Filter}
use Rattle.study_model.specs.declared.records.ScanItem.{ScanItem}
use Rattle.study_model.specs.declared.words.StudyModel.{StudyModel}
use Rattle.study_model.specs.declared.words.Sequence.TheVariants as sequence
use Rattle.study_model.specs.declared.words.FilterKind.TheVariants as filter_kind
use Rattle.study_reader.specs.Checks.{first_fault, key_of, unless, keys_fault, name_fault, name_value, reserved_fault, bus_fault, bus_value, decimal_fault, decimal_value, default_fault, decimal_or, option_value, flag_value, word_fault, word_value, stray_fault}
use Rattle.study_reader.specs.Groups.{in_phases, impedance_fault, zero_sequence_fault, skin_fault, wiring_fault}
use Rattle.study_reader.specs.Curves.{has_curves, limit_fault, limit}
use Rattle.study_reader.specs.declared.context.Context.{Context}
use Rattle.study_reader.specs.declared.entries.Scanned.{Scanned}
use Rattle.study_reader.specs.declared.entries.Band.{Band}

-- ---- a bus
abbrev pub bus_keys : List Key
bus_keys = key.Name ∷ key.Kv ∷ []

unfoldable pub bus_entry_fault : Context → List (List ℕ) → Place → Data → Option StudyFault
bus_entry_fault context earlier place entry = first_fault (
    keys_fault place place bus_keys entry ∷
    name_fault place earlier entry ∷
    decimal_fault place key.Kv BUS_KV entry ∷ [])

unfoldable pub bus_entry : Context → Data → Bus
bus_entry context entry = record { name = name_value entry; kv = decimal_value key.Kv entry }

-- ---- a source
abbrev pub source_keys : List Key
source_keys = key.Name ∷ key.Bus ∷ key.R ∷ key.X ∷ key.R0 ∷ key.X0 ∷ key.SkinK ∷ key.SkinM ∷ []

unfoldable pub source_entry_fault : Context → List (List ℕ) → Place → Data → Option StudyFault
source_entry_fault context earlier place entry = first_fault (
    keys_fault place place source_keys entry ∷
    name_fault place earlier entry ∷
    bus_fault place key.Bus context.buses entry ∷
    impedance_fault place entry ∷
    zero_sequence_fault place false entry ∷
    skin_fault place entry ∷ [])

unfoldable pub source_entry : Context → Data → Source
source_entry context entry = record {
  name = name_value entry;
  bus = bus_value key.Bus context.buses entry;
  r = decimal_value key.R entry;
  x = decimal_value key.X entry;
  r0 = option_value key.R0 entry;
  x0 = option_value key.X0 entry;
  skin_k = decimal_or (pos 0) key.SkinK entry;
  skin_m = decimal_or (pos 1000000) key.SkinM entry;
}

-- ---- a bank
abbrev pub bank_keys : List Key
bank_keys = key.Name ∷ key.Bus ∷ key.Q ∷ key.Grounded ∷ key.Phase ∷ []

unfoldable pub bank_entry_fault : Context → List (List ℕ) → Place → Data → Option StudyFault
bank_entry_fault context earlier place entry = first_fault (
    keys_fault place place bank_keys entry ∷
    name_fault place earlier entry ∷
    bus_fault place key.Bus context.buses entry ∷
    decimal_fault place key.Q ABOVE_ZERO entry ∷
    wiring_fault context.model place entry ∷ [])

unfoldable pub bank_entry : Context → Data → Bank
bank_entry context entry = record {
  name = name_value entry;
  bus = bus_value key.Bus context.buses entry;
  q = decimal_value key.Q entry;
  grounded = flag_value key.Grounded entry;
  phase = word_value phase_of key.Phase entry;
}

-- ---- a filter
abbrev pub filter_keys : List Key
filter_keys = key.Name ∷ key.Bus ∷ key.Kind ∷ key.Q ∷ key.Order ∷ key.Quality ∷ key.Grounded ∷ key.Phase ∷ []

unfoldable pub filter_entry_fault : Context → List (List ℕ) → Place → Data → Option StudyFault
filter_entry_fault context earlier place entry = first_fault (
    keys_fault place place filter_keys entry ∷
    name_fault place earlier entry ∷
    bus_fault place key.Bus context.buses entry ∷
    word_fault place key.Kind true filter_kind_of entry ∷
    decimal_fault place key.Q ABOVE_ZERO entry ∷
    decimal_fault place key.Order TUNED_ORDER entry ∷
    decimal_fault place key.Quality QUALITY entry ∷
    wiring_fault context.model place entry ∷ [])

unfoldable pub filter_entry : Context → Data → Filter
filter_entry context entry = record {
  name = name_value entry;
  bus = bus_value key.Bus context.buses entry;
  kind = unwrap_or (word_value filter_kind_of key.Kind entry) filter_kind.Single;
  q = decimal_value key.Q entry;
  order = decimal_value key.Order entry;
  quality = decimal_value key.Quality entry;
  grounded = flag_value key.Grounded entry;
  phase = word_value phase_of key.Phase entry;
}

-- ---- a scan
-- one of the two networks in the sequence model, a phase in the phases model
unfoldable pub scanned_fault : StudyModel → Place → Data → Option StudyFault
scanned_fault model place entry = first_fault (
    stray_fault place key.Network (not (in_phases model)) entry ∷
    word_fault place key.Network false sequence_of entry ∷
    stray_fault place key.Phase (in_phases model) entry ∷
    word_fault place key.Phase (in_phases model) phase_of entry ∷ [])

abbrev pub scanned : Data → Scanned
scanned entry = record {
  network = unwrap_or (word_value sequence_of key.Network entry) sequence.Positive;
  phase = word_value phase_of key.Phase entry;
}

-- a band goes upwards
unfoldable pub upwards_fault : Place → ℤ → ℤ → Option StudyFault
upwards_fault place from to = unless (int_lt from to) (BadBand (key_of place key.To))

-- in at most 65536 finest widths
unfoldable pub widths_fault : Place → ℤ → ℤ → ℤ → Option StudyFault
widths_fault place from to finest = unless (int_le (to -ℤ from) (pos MAX_WIDTHS *ℤ finest)) (TooFine (key_of place key.Finest))

-- and peaks are located in boxes that are no finer
unfoldable pub locate_fault : Place → ℤ → ℤ → Option StudyFault
locate_fault place finest locate = unless (int_le finest locate) (BadBand (key_of place key.Locate))

unfoldable pub band_fault : ℕ → Place → Data → Option StudyFault
band_fault version place entry = first_fault (
    decimal_fault place key.From BAND entry ∷
    decimal_fault place key.To BAND entry ∷
    upwards_fault place (decimal_value key.From entry) (decimal_value key.To entry) ∷
    limit_fault version place (decimal_value key.From entry) (decimal_value key.To entry) entry ∷
    decimal_fault place key.Finest FINEST entry ∷
    widths_fault place (decimal_value key.From entry) (decimal_value key.To entry) (decimal_value key.Finest entry) ∷
    default_fault place key.Locate LOCATE entry ∷
    locate_fault place (decimal_value key.Finest entry) (decimal_or (decimal_value key.Finest entry) key.Locate entry) ∷ [])

abbrev pub band : ℕ → Data → Band
band version entry = record {
  from = decimal_value key.From entry;
  to = decimal_value key.To entry;
  limit = limit version entry;
  finest = decimal_value key.Finest entry;
  locate = decimal_or (decimal_value key.Finest entry) key.Locate entry;
}

-- the keys of a scan in version 1
abbrev pub ohms_keys : List Key
ohms_keys = key.Name ∷ key.Bus ∷ key.Network ∷ key.Phase ∷ key.From ∷ key.To ∷ key.Threshold ∷ key.Finest ∷ key.Locate ∷ []

-- and in version 2
abbrev pub curve_keys : List Key
curve_keys = key.Name ∷ key.Bus ∷ key.Network ∷ key.Phase ∷ key.From ∷ key.To ∷ key.CurveAt ∷ key.CurveOhms ∷ key.Finest ∷ key.Locate ∷ []

unfoldable pub scan_keys_fault : ℕ → Place → Data → Option StudyFault
scan_keys_fault version place entry = keys_fault place place (if has_curves version then curve_keys else ohms_keys) entry

-- a scan, which isn't named as the rows of limits are
unfoldable pub scan_entry_fault : Context → List (List ℕ) → Place → Data → Option StudyFault
scan_entry_fault context earlier place entry = first_fault (
    scan_keys_fault context.version place entry ∷
    reserved_fault place (codes "limits") entry ∷
    name_fault place earlier entry ∷
    bus_fault place key.Bus context.buses entry ∷
    scanned_fault context.model place entry ∷
    band_fault context.version place entry ∷ [])

unfoldable pub scan_entry : Context → Data → ScanItem
scan_entry context entry = record {
  name = name_value entry;
  bus = bus_value key.Bus context.buses entry;
  network = unwrap_or (word_value sequence_of key.Network entry) sequence.Positive;
  phase = word_value phase_of key.Phase entry;
  from = decimal_value key.From entry;
  to = decimal_value key.To entry;
  threshold = (limit context.version entry).threshold;
  curve = (limit context.version entry).curve;
  finest = decimal_value key.Finest entry;
  locate = decimal_or (decimal_value key.Finest entry) key.Locate entry;
}
