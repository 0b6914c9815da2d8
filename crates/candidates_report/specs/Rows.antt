-- The rows of an entry.
use Rattle.std.specs.Prelude.{ℕ, ◌+◌, unsigned_abs, List, [], ◌∷◌, ◌++◌}
use Rattle.scan_report.specs.declared.rows.Row.{Row}
use Rattle.scan_report.specs.declared.rows.Row.TheVariants as row
use Rattle.study_model.specs.declared.records.ScanItem.{ScanItem}
use Rattle.study_model.specs.declared.records.Study.{Study}
use Rattle.study_scans.specs.Report.{bus_name}
use Rattle.study_variants.specs.declared.size_row.SizeRow.{SizeRow}
use Rattle.candidates_report.specs.First.{first_safe}
use Rattle.candidates_report.specs.declared.entry.Entry.{Entry}

-- the first row, with the scan's name, bus, band and threshold
abbrev pub candidate_row : Study → ScanItem → Row
candidate_row study scan = row.Candidate scan.name (bus_name study.buses scan.bus) (unsigned_abs scan.from) (unsigned_abs scan.to) scan.threshold

-- the row of a size
abbrev pub size_row : ℕ → SizeRow → Row
size_row number s = row.Size number s.size s.cleared s.peaks s.undecided

-- the rows of sizes, numbered from here
abbrev pub size_rows : ℕ → List SizeRow → List Row
size_rows number [] = []
size_rows number (s ∷ sizes) = size_row number s ∷ size_rows (number + 1) sizes

-- the last row, with the first safe size
abbrev pub first_row : ScanItem → List SizeRow → Row
first_row scan sizes = row.First scan.name (first_safe sizes)

-- the rows of an entry
abbrev pub entry_rows : Study → Entry → List Row
entry_rows study entry = candidate_row study entry.scan ∷ (size_rows 1 entry.sizes ++ first_row entry.scan entry.sizes ∷ [])
