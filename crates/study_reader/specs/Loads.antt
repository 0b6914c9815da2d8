-- The entry of a load: its checks, and the record that it stands for.
use Rattle.std.specs.Prelude.{ℕ, Bool, true, false, not, List, [], ◌∷◌, Option, unwrap_or}
use Rattle.toml.specs.Data.{Data}
use Rattle.study_model.specs.ValueWords.{load_model_of, phase_of}
use Rattle.study_model.specs.declared.fault.Place.{Place}
use Rattle.study_model.specs.declared.fault.Key.{Key}
use Rattle.study_model.specs.declared.fault.Key.TheVariants as key
use Rattle.study_model.specs.declared.fault.StudyFault.{StudyFault}
use Rattle.study_model.specs.declared.range.Range.{Range}
use Rattle.study_model.specs.declared.range.TheConstants.Range.{ORDINARY, ABOVE_ZERO}
use Rattle.study_model.specs.declared.records.Load.{Load}
use Rattle.study_model.specs.declared.words.LoadModel.{LoadModel}
use Rattle.study_model.specs.declared.words.LoadModel.TheVariants as load_model
use Rattle.study_reader.specs.Checks.{first_fault, stray_fault, keys_fault, name_fault, name_value, bus_fault, bus_value, optional_fault, option_value, both_zero_fault, flag_value, word_fault, word_value}
use Rattle.study_reader.specs.Groups.{wiring_fault}
use Rattle.study_reader.specs.declared.context.Context.{Context}
use Rattle.study_reader.specs.declared.loads.Part.{Part}

-- the series model has an impedance, and the others a power
abbrev pub is_series : LoadModel → Bool
is_series load_model.Cigre = false
is_series load_model.Parallel = false
is_series load_model.Series = true

-- a load of the model of CIGRE has an active power above 0
abbrev pub power_range : LoadModel → Range
power_range load_model.Cigre = ABOVE_ZERO
power_range load_model.Parallel = ORDINARY
power_range load_model.Series = ORDINARY

-- a decimal that stands there exactly where it belongs
unfoldable pub part_fault : Place → Key → Bool → Range → Data → Option StudyFault
part_fault place key belongs range entry = first_fault (
    stray_fault place key belongs entry ∷
    optional_fault place key belongs range entry ∷ [])

-- two of them, not both 0
unfoldable pub parts_fault : Place → Key → Key → Bool → Range → Data → Option StudyFault
parts_fault place first second belongs range entry = first_fault (
    part_fault place first belongs range entry ∷
    part_fault place second belongs ORDINARY entry ∷
    both_zero_fault place second (option_value first entry) (option_value second entry) ∷ [])

abbrev pub part : Key → Key → Data → Part
part first second entry = record { first = option_value first entry; second = option_value second entry }

-- the model of a load
abbrev pub model_in : Data → LoadModel
model_in entry = unwrap_or (word_value load_model_of key.Model entry) load_model.Cigre

abbrev pub load_keys : List Key
load_keys = key.Name ∷ key.Bus ∷ key.Model ∷ key.P ∷ key.Q ∷ key.R ∷ key.X ∷ key.Grounded ∷ key.Phase ∷ []

unfoldable pub load_entry_fault : Context → List (List ℕ) → Place → Data → Option StudyFault
load_entry_fault context earlier place entry = first_fault (
    keys_fault place place load_keys entry ∷
    name_fault place earlier entry ∷
    bus_fault place key.Bus context.buses entry ∷
    word_fault place key.Model true load_model_of entry ∷
    parts_fault place key.P key.Q (not (is_series (model_in entry))) (power_range (model_in entry)) entry ∷
    parts_fault place key.R key.X (is_series (model_in entry)) ORDINARY entry ∷
    wiring_fault context.model place entry ∷ [])

unfoldable pub load_entry : Context → Data → Load
load_entry context entry = record {
  name = name_value entry;
  bus = bus_value key.Bus context.buses entry;
  model = model_in entry;
  p = option_value key.P entry;
  q = option_value key.Q entry;
  r = option_value key.R entry;
  x = option_value key.X entry;
  grounded = flag_value key.Grounded entry;
  phase = word_value phase_of key.Phase entry;
}
