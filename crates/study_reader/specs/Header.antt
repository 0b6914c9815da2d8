-- The one table of the study as a whole.
use Rattle.std.specs.Prelude.{pos, false, List, [], ◌∷◌, Option, Some, None, unwrap_or}
use Rattle.toml.specs.Data.{Data, table, no_members}
use Rattle.study_model.specs.ValueWords.{method_of, study_model_of}
use Rattle.study_model.specs.declared.fault.Section.TheVariants as section
use Rattle.study_model.specs.declared.fault.Key.{Key}
use Rattle.study_model.specs.declared.fault.Key.TheVariants as key
use Rattle.study_model.specs.declared.fault.StudyFault.{StudyFault}
use Rattle.study_model.specs.declared.fault.StudyFault.TheVariants.{MissingKey}
use Rattle.study_model.specs.declared.range.TheConstants.Range.{BASE_MVA, HERTZ, ROOT3}
use Rattle.study_model.specs.declared.words.StudyModel.TheVariants.{Sequence}
use Rattle.study_model.specs.declared.words.Method.TheVariants.{Elimination}
use Rattle.study_reader.specs.Checks.{first_fault, place_of, keys_fault, version_fault, version_value, decimal_fault, decimal_value, default_fault, decimal_or, word_fault, word_value, scale_fault, scale_value}
use Rattle.study_reader.specs.declared.header.Header.{Header}

abbrev pub study_keys : List Key
study_keys = key.Version ∷ key.Mva ∷ key.Hz ∷ key.Model ∷ key.Scale ∷ key.Method ∷ key.Root3 ∷ []

-- the keys of the study
unfoldable pub header_fault : Data → Option StudyFault
header_fault entry = let place = place_of section.Study 1 key.Nothing in first_fault (
    keys_fault (place_of section.Study 0 key.Nothing) place study_keys entry ∷
    version_fault place entry ∷
    decimal_fault place key.Mva BASE_MVA entry ∷
    default_fault place key.Hz HERTZ entry ∷
    word_fault place key.Model false study_model_of entry ∷
    scale_fault place entry ∷
    word_fault place key.Method false method_of entry ∷
    default_fault place key.Root3 ROOT3 entry ∷ [])

unfoldable pub header_value : Data → Header
header_value entry = record {
  version = version_value entry;
  mva = decimal_value key.Mva entry;
  hz = decimal_or (pos 50000000) key.Hz entry;
  model = unwrap_or (word_value study_model_of key.Model entry) Sequence;
  scale = scale_value entry;
  method = unwrap_or (word_value method_of key.Method entry) Elimination;
  root3 = decimal_or (pos 1732051) key.Root3 entry;
}

-- the section, which has to be there
unfoldable pub study_section_fault : Option Data → Option StudyFault
study_section_fault None = Some (MissingKey (place_of section.Study 0 key.Nothing))
study_section_fault (Some entry) = header_fault entry

unfoldable pub study_section_value : Option Data → Header
study_section_value None = header_value (table no_members)
study_section_value (Some entry) = header_value entry
