-- The spectrum that the bytes of a file are, beside a study.
use Rattle.std.specs.Prelude.{ℕ, List, Result}
use Rattle.study_model.specs.declared.records.Study.{Study}
use Rattle.spectrum_reader.specs.declared.injection.Injection.{Injection}
use Rattle.spectrum_reader.specs.declared.fault.SpectrumFault.{SpectrumFault}
use Rattle.spectrum_reader.specs.declared.fault.SpectrumFault.TheVariants.{BadHeader}
use Rattle.spectrum_reader.specs.Records.{records_of}
use Rattle.spectrum_reader.specs.Rows.{file_of}
use Rattle.spectrum_reader.specs.SpectrumRows.{spectrum_names, spectrum_row}

-- its injections in the order of its rows, or its first refusal
unfoldable pub spectrum_of : Study → List ℕ → Result (List Injection) SpectrumFault
spectrum_of study bytes = file_of (spectrum_names study.model) BadHeader (spectrum_row study) (records_of bytes)
