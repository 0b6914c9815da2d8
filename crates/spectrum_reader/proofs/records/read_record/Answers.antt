use Rattle.csv.specs.Records.{fields_of}
use Rattle.spectrum_reader.proofs.Steps.{first_read}
use Rattle.spectrum_reader.proofs.records.read_record.Goals.{in-Ok, in-Err}
use Rattle.spectrum_reader.proofs.records.read_record.Goals as goal

pub returns : goal.returns
returns c = elim c.match-read_byte_record.branch [
  | in-Ok w ↦ rw (w.result-is) (first_read c.args.reader.now c.read_byte_record.new.self w.in-Ok.found (fields_of c.read_byte_record.new.row) c.requires (rw (w.in-Ok.is) at (c.read_byte_record.ensures.ready c.requires.trim)) (rw (w.in-Ok.is) at c.read_byte_record.ensures.reads c.requires.trim c.requires.ready))
  | in-Err w ↦ rw (w.result-is) tt
]
