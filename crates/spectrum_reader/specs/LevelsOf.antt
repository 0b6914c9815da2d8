-- The planning levels that the bytes of a file are, beside a study.
use Rattle.std.specs.Prelude.{ℕ, List, Result}
use Rattle.study_model.specs.declared.records.Study.{Study}
use Rattle.spectrum_reader.specs.declared.level.Level.{Level}
use Rattle.spectrum_reader.specs.declared.fault.LevelsFault.{LevelsFault}
use Rattle.spectrum_reader.specs.declared.fault.LevelsFault.TheVariants.{BadHeader}
use Rattle.spectrum_reader.specs.Records.{records_of}
use Rattle.spectrum_reader.specs.Rows.{file_of}
use Rattle.spectrum_reader.specs.LevelRows.{level_names, level_row}

-- its levels in the order of its rows, or its first refusal
unfoldable pub levels_of : Study → List ℕ → Result (List Level) LevelsFault
levels_of study bytes = file_of level_names BadHeader (level_row study) (records_of bytes)
