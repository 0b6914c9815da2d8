-- Keys that several sections have, and that are read together.
use Rattle.std.specs.Prelude.{pos, true, false, Bool, ◌||◌, [], ◌∷◌, Option, Some}
use Rattle.toml.specs.Data.{Data}
use Rattle.study_model.specs.ValueWords.{phase_of}
use Rattle.study_model.specs.declared.fault.Place.{Place}
use Rattle.study_model.specs.declared.fault.Key.TheVariants as key
use Rattle.study_model.specs.declared.fault.StudyFault.{StudyFault}
use Rattle.study_model.specs.declared.range.TheConstants.Range.{ORDINARY, SKIN_K, SKIN_M}
use Rattle.study_model.specs.declared.words.StudyModel.{StudyModel}
use Rattle.study_model.specs.declared.words.StudyModel.TheVariants as study_model
use Rattle.study_reader.specs.Checks.{first_fault, has, stray_fault, decimal_fault, decimal_value, default_fault, decimal_or, optional_fault, option_value, both_zero_fault, flag_fault, flag_value, word_fault, word_value}
use Rattle.study_reader.specs.declared.groups.Impedance.{Impedance}
use Rattle.study_reader.specs.declared.groups.ZeroSequence.{ZeroSequence}
use Rattle.study_reader.specs.declared.groups.Skin.{Skin}
use Rattle.study_reader.specs.declared.groups.Wiring.{Wiring}

-- the phases model
abbrev pub in_phases : StudyModel → Bool
in_phases study_model.Sequence = false
in_phases study_model.Phases = true

-- r and x in ohms, not both 0
unfoldable pub impedance_fault : Place → Data → Option StudyFault
impedance_fault place entry = first_fault (
    decimal_fault place key.R ORDINARY entry ∷
    decimal_fault place key.X ORDINARY entry ∷
    both_zero_fault place key.X (Some (decimal_value key.R entry)) (Some (decimal_value key.X entry)) ∷ [])

abbrev pub impedance : Data → Impedance
impedance entry = record { r = decimal_value key.R entry; x = decimal_value key.X entry }

-- r0 and x0 in ohms, both or none, not both 0
unfoldable pub zero_sequence_fault : Place → Bool → Data → Option StudyFault
zero_sequence_fault place required entry = first_fault (
    optional_fault place key.R0 (required || has key.X0 entry) ORDINARY entry ∷
    optional_fault place key.X0 (required || has key.R0 entry) ORDINARY entry ∷
    both_zero_fault place key.X0 (option_value key.R0 entry) (option_value key.X0 entry) ∷ [])

abbrev pub zero_sequence : Data → ZeroSequence
zero_sequence entry = record { r0 = option_value key.R0 entry; x0 = option_value key.X0 entry }

-- how a resistance grows with the order
unfoldable pub skin_fault : Place → Data → Option StudyFault
skin_fault place entry = first_fault (
    default_fault place key.SkinK SKIN_K entry ∷
    default_fault place key.SkinM SKIN_M entry ∷ [])

abbrev pub skin : Data → Skin
skin entry = record { k = decimal_or (pos 0) key.SkinK entry; m = decimal_or (pos 1000000) key.SkinM entry }

-- whether a star is grounded, and the phase of an element, in the phases model alone
unfoldable pub wiring_fault : StudyModel → Place → Data → Option StudyFault
wiring_fault model place entry = first_fault (
    flag_fault place key.Grounded entry ∷
    stray_fault place key.Phase (in_phases model) entry ∷
    word_fault place key.Phase false phase_of entry ∷ [])

abbrev pub wiring : Data → Wiring
wiring entry = record { grounded = flag_value key.Grounded entry; phase = word_value phase_of key.Phase entry }
