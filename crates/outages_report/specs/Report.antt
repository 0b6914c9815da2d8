-- The rows and the status of the report on outages.
use Rattle.std.specs.Prelude.{ℕ, List, [], ◌∷◌, ◌++◌, map}
use Rattle.scan_report.specs.declared.rows.Row.{Row}
use Rattle.scan_report.specs.declared.rows.Row.TheVariants as row
use Rattle.study_model.specs.declared.records.Study.{Study}
use Rattle.outages_report.specs.Envelopes.{envelope_row}
use Rattle.outages_report.specs.Table.{table_of, rows_from, status_of}

-- 3 where an outage floats or a case has a peak, else 4 where a case has an undecided box, else 0
unfoldable pub outages_status : Study → ℕ
outages_status study = status_of (table_of study)

-- each outage with its cases, the envelopes of the scans, the last row
unfoldable pub outages_rows_of : Study → List Row
outages_rows_of study = rows_from 1 (table_of study) ++ (map (envelope_row study) study.scans ++ row.End (outages_status study) ∷ [])
