use Rattle.std.proofs.Common.{◌≡◌, Ok, ap, arith, length, rules}
use Rattle.spectrum_reader.specs.Records.{left_of}
use Rattle.spectrum_reader.specs.SpectrumRows.{spectrum_names}
use Rattle.spectrum_reader.specs.SpectrumOf.{spectrum_of}
use Rattle.spectrum_reader.proofs.Sound.{lawful_spectrum}
use Rattle.spectrum_reader.proofs.Steps.{few_records, fewer_after}
use Rattle.spectrum_reader.proofs.spectrum.read_spectrum.Goals as goal

pub injections-requires-clause-few : goal.injections-requires-clause-few
injections-requires-clause-few c =
    let headed = rw c.if-not-headed.false at c.in-Ok.ensures in
    omega (arith, fewer_after (spectrum_names c.args.study.now.model) (left_of c.records-reader.result) (left_of c.read_header.new.reader) (rw c.spectrum_names.ensures.names at headed.1), few_records c.args.bytes.now, ap length c.records-reader.ensures.all, c.requires.bytes)

pub returns-clause-lawful : goal.returns-clause-lawful
unfolding spectrum_of
returns-clause-lawful c =
    let read : spectrum_of c.args.study.now c.args.bytes.now ≡ Ok c.in_ok-rows.rows = search rules in
    lawful_spectrum c.args.study.now c.args.bytes.now c.in_ok-rows.rows read
