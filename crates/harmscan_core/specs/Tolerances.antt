-- The rows and the text of a report within tolerances.
use Rattle.std.specs.Prelude.{ℕ, List, ◌∷◌, length}
use Rattle.scan_report.specs.Reading.{text_of}
use Rattle.scan_report.specs.declared.rows.Row.{Row}
use Rattle.scan_report.specs.declared.rows.Row.TheVariants as row
use Rattle.study_model.specs.declared.records.Study.{Study}
use Rattle.study_scans.specs.Report.{rows_by}
use Rattle.tolerance_scan.specs.Report.{tolerance_test}

-- how many tolerances there are, and then the rows of the study's scans, each by its test for all values within them
abbrev pub tolerance_rows : Study → List Row
tolerance_rows study = row.Tolerance (length study.tolerances) ∷ rows_by (tolerance_test study) study

-- the bytes of the report
unfoldable pub tolerance_text : Study → List ℕ
tolerance_text study = text_of (tolerance_rows study)
