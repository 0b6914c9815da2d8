-- The entries of lines and transformers: their checks, and the records that they stand for.
use Rattle.std.specs.Prelude.{ℕ, ℤ, pos, int_le, nat_eq, Bool, true, false, not, ◌&&◌, ◌||◌, List, [], ◌∷◌, Option, unwrap_or}
use Rattle.std.specs.Ordering.{int_eq}
use Rattle.toml.specs.Data.{Data}
use Rattle.study_model.specs.Voltages.{kv_of}
use Rattle.study_model.specs.ValueWords.{connection_of}
use Rattle.study_model.specs.declared.fault.Place.{Place}
use Rattle.study_model.specs.declared.fault.Key.{Key}
use Rattle.study_model.specs.declared.fault.Key.TheVariants as key
use Rattle.study_model.specs.declared.fault.StudyFault.{StudyFault}
use Rattle.study_model.specs.declared.fault.StudyFault.TheVariants.{OutOfRange}
use Rattle.study_model.specs.declared.range.TheConstants.Range.{ORDINARY, BASE_MVA, RESISTANCE_PERCENT, REACTANCE_PERCENT, RATIO}
use Rattle.study_model.specs.declared.records.Bus.{Bus}
use Rattle.study_model.specs.declared.records.Line.{Line}
use Rattle.study_model.specs.declared.records.Transformer.{Transformer}
use Rattle.study_model.specs.declared.words.StudyModel.{StudyModel}
use Rattle.study_model.specs.declared.words.Connection.{Connection}
use Rattle.study_model.specs.declared.words.Connection.TheVariants as connection
use Rattle.study_reader.specs.Checks.{first_fault, key_of, unless, has, stray_fault, keys_fault, name_fault, name_value, bus_fault, bus_value, decimal_fault, decimal_value, default_fault, decimal_or, optional_fault, option_value, sections_fault, sections_value, word_fault, word_value}
use Rattle.study_reader.specs.Groups.{in_phases, impedance_fault, zero_sequence_fault, skin_fault}
use Rattle.study_reader.specs.declared.context.Context.{Context}
use Rattle.study_reader.specs.declared.branches.Ends.{Ends}
use Rattle.study_reader.specs.declared.branches.Mutual.{Mutual}
use Rattle.study_reader.specs.declared.branches.Rating.{Rating}
use Rattle.study_reader.specs.declared.branches.Neutral.{Neutral}

-- the name and the two buses of a line or a transformer
abbrev pub ends : Context → Data → Ends
ends context entry = record { name = name_value entry; from = bus_value key.From context.buses entry; to = bus_value key.To context.buses entry }

-- ---- a line
-- the ends of a line are two buses of one voltage
unfoldable pub line_ends_fault : Place → List Bus → ℕ → ℕ → Option StudyFault
line_ends_fault place buses from to = unless (not (nat_eq from to) && int_eq (kv_of buses from) (kv_of buses to)) (OutOfRange (key_of place key.To))

-- a line's susceptance in the zero sequence is at most that in the positive one
unfoldable pub at_most_fault : Place → Key → ℤ → ℤ → Option StudyFault
at_most_fault place key value most = unless (int_le value most) (OutOfRange (key_of place key))

-- whether any of the mutual reactances is there
abbrev pub has_mutual : Data → Bool
has_mutual entry = has key.Xab entry || has key.Xbc entry || has key.Xca entry

-- the mutual reactances in ohms: all or none in the phases model, and keys that don't belong in the sequence model
unfoldable pub mutual_fault : StudyModel → Place → Data → Option StudyFault
mutual_fault model place entry = first_fault (
    stray_fault place key.Xab (in_phases model) entry ∷
    optional_fault place key.Xab (in_phases model && has_mutual entry) ORDINARY entry ∷
    stray_fault place key.Xbc (in_phases model) entry ∷
    optional_fault place key.Xbc (in_phases model && has_mutual entry) ORDINARY entry ∷
    stray_fault place key.Xca (in_phases model) entry ∷
    optional_fault place key.Xca (in_phases model && has_mutual entry) ORDINARY entry ∷ [])

abbrev pub mutuals : Data → Mutual
mutuals entry = record { xab = option_value key.Xab entry; xbc = option_value key.Xbc entry; xca = option_value key.Xca entry }

abbrev pub line_keys : List Key
line_keys = key.Name ∷ key.From ∷ key.To ∷ key.R ∷ key.X ∷ key.B ∷ key.R0 ∷ key.X0 ∷ key.B0 ∷ key.Sections ∷ key.Xab ∷ key.Xbc ∷ key.Xca ∷ key.SkinK ∷ key.SkinM ∷ []

-- the name and the ends of a line
unfoldable pub line_front_fault : Context → List (List ℕ) → Place → Data → Option StudyFault
line_front_fault context earlier place entry = first_fault (
    keys_fault place place line_keys entry ∷
    name_fault place earlier entry ∷
    bus_fault place key.From context.buses entry ∷
    bus_fault place key.To context.buses entry ∷
    line_ends_fault place context.buses (bus_value key.From context.buses entry) (bus_value key.To context.buses entry) ∷ [])

unfoldable pub line_entry_fault : Context → List (List ℕ) → Place → Data → Option StudyFault
line_entry_fault context earlier place entry = first_fault (
    line_front_fault context earlier place entry ∷
    impedance_fault place entry ∷
    default_fault place key.B ORDINARY entry ∷
    zero_sequence_fault place (in_phases context.model) entry ∷
    default_fault place key.B0 ORDINARY entry ∷
    at_most_fault place key.B0 (decimal_or (pos 0) key.B0 entry) (decimal_or (pos 0) key.B entry) ∷
    sections_fault place entry ∷
    mutual_fault context.model place entry ∷
    skin_fault place entry ∷ [])

unfoldable pub line_entry : Context → Data → Line
line_entry context entry = record {
  name = name_value entry;
  from = bus_value key.From context.buses entry;
  to = bus_value key.To context.buses entry;
  r = decimal_value key.R entry;
  x = decimal_value key.X entry;
  b = decimal_or (pos 0) key.B entry;
  r0 = option_value key.R0 entry;
  x0 = option_value key.X0 entry;
  b0 = decimal_or (pos 0) key.B0 entry;
  sections = sections_value entry;
  xab = option_value key.Xab entry;
  xbc = option_value key.Xbc entry;
  xca = option_value key.Xca entry;
  skin_k = decimal_or (pos 0) key.SkinK entry;
  skin_m = decimal_or (pos 1000000) key.SkinM entry;
}

-- ---- a transformer
-- its ends are two buses
unfoldable pub ends_fault : Place → ℕ → ℕ → Option StudyFault
ends_fault place from to = unless (not (nat_eq from to)) (OutOfRange (key_of place key.To))

-- its own MVA, percents on it, and its ratio
unfoldable pub rating_fault : Place → Data → Option StudyFault
rating_fault place entry = first_fault (
    decimal_fault place key.Mva BASE_MVA entry ∷
    decimal_fault place key.R RESISTANCE_PERCENT entry ∷
    decimal_fault place key.X REACTANCE_PERCENT entry ∷
    default_fault place key.Ratio RATIO entry ∷ [])

abbrev pub rating : Data → Rating
rating entry = record { mva = decimal_value key.Mva entry; r = decimal_value key.R entry; x = decimal_value key.X entry; ratio = decimal_or (pos 1000000) key.Ratio entry }

abbrev pub is_grounded : Connection → Bool
is_grounded connection.Grounded = true
is_grounded connection.Star = false
is_grounded connection.Delta = false

-- how a winding is connected
abbrev pub connection_at : Key → Data → Connection
connection_at key entry = unwrap_or (word_value connection_of key entry) connection.Star

-- the impedance of a neutral in ohms, which a grounded winding alone has
unfoldable pub neutral_fault : Place → Key → Key → Bool → Data → Option StudyFault
neutral_fault place rn xn grounded entry = first_fault (
    stray_fault place rn grounded entry ∷
    default_fault place rn ORDINARY entry ∷
    stray_fault place xn grounded entry ∷
    default_fault place xn ORDINARY entry ∷ [])

abbrev pub neutral : Key → Key → Data → Neutral
neutral rn xn entry = record { r = decimal_or (pos 0) rn entry; x = decimal_or (pos 0) xn entry }

abbrev pub transformer_keys : List Key
transformer_keys = key.Name ∷ key.From ∷ key.To ∷ key.Mva ∷ key.R ∷ key.X ∷ key.Ratio ∷ key.FromConn ∷ key.ToConn ∷ key.FromRn ∷ key.FromXn ∷ key.ToRn ∷ key.ToXn ∷ key.SkinK ∷ key.SkinM ∷ []

-- the name and the ends of a transformer
unfoldable pub transformer_front_fault : Context → List (List ℕ) → Place → Data → Option StudyFault
transformer_front_fault context earlier place entry = first_fault (
    keys_fault place place transformer_keys entry ∷
    name_fault place earlier entry ∷
    bus_fault place key.From context.buses entry ∷
    bus_fault place key.To context.buses entry ∷
    ends_fault place (bus_value key.From context.buses entry) (bus_value key.To context.buses entry) ∷ [])

unfoldable pub transformer_entry_fault : Context → List (List ℕ) → Place → Data → Option StudyFault
transformer_entry_fault context earlier place entry = first_fault (
    transformer_front_fault context earlier place entry ∷
    rating_fault place entry ∷
    word_fault place key.FromConn false connection_of entry ∷
    word_fault place key.ToConn false connection_of entry ∷
    neutral_fault place key.FromRn key.FromXn (is_grounded (connection_at key.FromConn entry)) entry ∷
    neutral_fault place key.ToRn key.ToXn (is_grounded (connection_at key.ToConn entry)) entry ∷
    skin_fault place entry ∷ [])

unfoldable pub transformer_entry : Context → Data → Transformer
transformer_entry context entry = record {
  name = name_value entry;
  from = bus_value key.From context.buses entry;
  to = bus_value key.To context.buses entry;
  mva = decimal_value key.Mva entry;
  r = decimal_value key.R entry;
  x = decimal_value key.X entry;
  ratio = decimal_or (pos 1000000) key.Ratio entry;
  from_conn = connection_at key.FromConn entry;
  to_conn = connection_at key.ToConn entry;
  from_rn = decimal_or (pos 0) key.FromRn entry;
  from_xn = decimal_or (pos 0) key.FromXn entry;
  to_rn = decimal_or (pos 0) key.ToRn entry;
  to_xn = decimal_or (pos 0) key.ToXn entry;
  skin_k = decimal_or (pos 0) key.SkinK entry;
  skin_m = decimal_or (pos 1000000) key.SkinM entry;
}
