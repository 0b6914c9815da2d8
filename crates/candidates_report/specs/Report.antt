-- The rows and the status of the report on the candidates of a study.
use Rattle.std.specs.Prelude.{ℕ, if◌then◌else◌, List, [], ◌∷◌, ◌++◌}
use Rattle.std.specs.List.{list_any, list_all, flat_map}
use Rattle.scan_report.specs.declared.rows.Row.{Row}
use Rattle.scan_report.specs.declared.rows.Row.TheVariants as row
use Rattle.study_model.specs.declared.records.Study.{Study}
use Rattle.candidates_report.specs.Entries.{entries_of}
use Rattle.candidates_report.specs.First.{has_first, is_lost}
use Rattle.candidates_report.specs.Rows.{entry_rows}
use Rattle.candidates_report.specs.declared.entry.Entry.{Entry}

-- 0 where each entry has a safe size, else 3 where in some entry without one every size has a peak, else 4
abbrev pub status_of : List Entry → ℕ
status_of entries = if list_all (λ e. has_first e.sizes) entries then 0 else (if list_any (λ e. is_lost e.sizes) entries then 3 else 4)

-- the rows of entries, and the last row with the status
abbrev pub closed : Study → List Entry → List Row
closed study entries = flat_map (entry_rows study) entries ++ row.End (status_of entries) ∷ []

-- the rows of the report
unfoldable pub candidates_rows_of : Study → List Row
candidates_rows_of study = closed study (entries_of study)

-- the status of the report
unfoldable pub candidates_status : Study → ℕ
candidates_status study = status_of (entries_of study)
