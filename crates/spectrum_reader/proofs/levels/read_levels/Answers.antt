use Rattle.std.proofs.Common.{ap, arith, length}
use Rattle.spectrum_reader.specs.Records.{left_of}
use Rattle.spectrum_reader.specs.LevelRows.{level_names}
use Rattle.spectrum_reader.proofs.Steps.{few_records, fewer_after}
use Rattle.spectrum_reader.proofs.levels.read_levels.Goals as goal

pub levels-requires-clause-few : goal.levels-requires-clause-few
levels-requires-clause-few c =
    let headed = rw c.if-not-headed.false at c.in-Ok.ensures in
    omega (arith, fewer_after level_names (left_of c.records-reader.result) (left_of c.read_header.new.reader) (rw c.level_names.ensures.names at headed.1), few_records c.args.bytes.now, ap length c.records-reader.ensures.all, c.requires.bytes)
