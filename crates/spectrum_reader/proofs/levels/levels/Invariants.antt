use Rattle.std.proofs.Common.{◌≡◌, ◌+◌, ◌<◌, ◌^◌, [], length}
use Rattle.spectrum_reader.specs.Records.{IsReading, left_of}
use Rattle.spectrum_reader.specs.Rows.{rows_from}
use Rattle.spectrum_reader.specs.LevelRows.{level_row}
use Rattle.spectrum_reader.proofs.levels.levels.Given as goal

abbrev pub invariant-rows : goal.invariant-rows
invariant-rows l = record {
  reading : IsReading l.reader;
  few : length l.rows + length (left_of l.reader) < 2 ^ 32;
  same : rows_from (level_row l.study) l.rows (left_of l.reader) ≡ rows_from (level_row l.study) [] (left_of l.initial.reader);
}

abbrev pub decreases-rows : goal.decreases-rows
decreases-rows l = length (left_of l.reader)
