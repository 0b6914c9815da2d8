use Rattle.std.proofs.Common.{◌∙◌, refl, inr}
use Rattle.spectrum_reader.specs.Records.{left_of, records_after, records_of}
use Rattle.spectrum_reader.proofs.records.records.Goals as goal

pub returns-clause-reading : goal.returns-clause-reading
returns-clause-reading c =
    let f = c.flexible.ensures in
    let h = c.has_headers.ensures in
    let r = c.from_reader.ensures in
    record {
      config = rw (f, h) at r.config ∙ c.new.ensures.config;
      trim = rw (f, h) at r.trim ∙ c.new.ensures.trim;
      ready = inr (inr (rw (f, h) at r.has_headers, r.headers));
      source = rw r.source refl;
    }

pub returns-clause-all : goal.returns-clause-all
unfolding records_of records_after left_of
returns-clause-all c = rw (c.from_reader.ensures.source, c.from_reader.ensures.state) refl
