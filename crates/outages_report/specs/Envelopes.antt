-- The envelope of a scan: its cases over all outages that don't float.
use Rattle.std.specs.Prelude.{ℕ, ◌+◌, not, List, [], ◌∷◌, ◌++◌, map, length, count_by, slice_get, Option, Some, None}
use Rattle.std.specs.List.{filter}
use Rattle.scan_report.specs.declared.rows.Row.{Row}
use Rattle.scan_report.specs.declared.rows.Row.TheVariants as row
use Rattle.study_model.specs.declared.records.Outage.{Outage}
use Rattle.study_model.specs.declared.records.ScanItem.{ScanItem}
use Rattle.study_model.specs.declared.records.Study.{Study}
use Rattle.outages_report.specs.declared.case.Case.{Case}
use Rattle.outages_report.specs.declared.table.OutageCases.{OutageCases}
use Rattle.outages_report.specs.Cases.{case_of, is_cleared_case, is_peak_case, is_undecided_case}
use Rattle.outages_report.specs.Floating.{floats}

-- the outages that don't float
abbrev pub fed_outages : Study → List Outage → List Outage
fed_outages study outages = filter (λ outage. not (floats study outage.element)) outages

-- the cases of a scan
abbrev pub scan_cases : Study → ScanItem → List Outage → List Case
scan_cases study scan outages = map (λ outage. case_of study outage.element scan) (fed_outages study outages)

-- the row of a scan of this name that has these cases
abbrev pub envelope_over : List ℕ → List Case → Row
envelope_over name cases = row.Envelope name (length cases) (count_by is_cleared_case cases) (count_by is_peak_case cases) (count_by is_undecided_case cases)

abbrev pub envelope_row : Study → ScanItem → Row
envelope_row study scan = envelope_over scan.name (scan_cases study scan study.outages)

-- ---- the same from what is found for each outage, by the scan's number from 0; proofs/Columns.antt shows that it is
-- the case of a scan
abbrev pub case_at : Option Case → List Case
case_at (Some case) = case ∷ []
case_at None = []

abbrev pub column_of : ℕ → List OutageCases → List Case
column_of place [] = []
column_of place (found ∷ table) = case_at (slice_get found.cases place) ++ column_of place table

-- the rows of scans that are numbered from here
abbrev pub envelopes_from : List OutageCases → ℕ → List ScanItem → List Row
envelopes_from table place [] = []
envelopes_from table place (scan ∷ scans) = envelope_over scan.name (column_of place table) ∷ envelopes_from table (place + 1) scans
