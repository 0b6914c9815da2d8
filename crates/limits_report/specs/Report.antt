-- The rows of the report on the distortion of a study by a spectrum, beside planning levels.
use Rattle.std.specs.Prelude.{ℕ, ◌++◌, Bool, true, false, if◌then◌else◌, List, [], ◌∷◌, count_by}
use Rattle.std.specs.List.{list_any}
use Rattle.ieee519_limits.specs.declared.bounds.Verdict.{Verdict}
use Rattle.ieee519_limits.specs.declared.bounds.Verdict.TheVariants.{Pass, Fail, Undecided}
use Rattle.scan_report.specs.declared.rows.Row.{Row}
use Rattle.scan_report.specs.declared.rows.Row.TheVariants as row
use Rattle.spectrum_reader.specs.declared.injection.Injection.{Injection}
use Rattle.spectrum_reader.specs.declared.level.Level.{Level}
use Rattle.study_model.specs.declared.records.Study.{Study}
use Rattle.limits_report.specs.Table.{table_of}
use Rattle.limits_report.specs.Sections.{body_rows}

-- a row with this verdict
abbrev pub passes : Verdict → Bool
passes Pass = true
passes Fail = false
passes Undecided = false

abbrev pub fails : Verdict → Bool
fails Pass = false
fails Fail = true
fails Undecided = false

abbrev pub is_undecided : Verdict → Bool
is_undecided Pass = false
is_undecided Fail = false
is_undecided Undecided = true

-- the row has a verdict, and it is of this kind
unfoldable pub has_verdict : (Verdict → Bool) → Row → Bool
has_verdict of_kind (row.Voltage bus phase order lo hi limit verdict) = of_kind verdict
has_verdict of_kind (row.Thd bus phase lo hi limit verdict) = of_kind verdict
has_verdict of_kind (row.Current point phase order lo hi limit verdict) = of_kind verdict
has_verdict of_kind (row.Tdd point phase lo hi limit verdict) = of_kind verdict
has_verdict of_kind _ = false

-- how many rows have a verdict of a kind
abbrev pub count_of : (Verdict → Bool) → List Row → ℕ
count_of of_kind rows = count_by (has_verdict of_kind) rows

-- the row of the counts
abbrev pub counts_row : List Row → Row
counts_row rows = row.LimitsSummary (count_of passes rows) (count_of fails rows) (count_of is_undecided rows)

-- 3 where some verdict is fail, else 4 where some is undecided, else 0
abbrev pub status_of : List Row → ℕ
status_of rows = if list_any (has_verdict fails) rows then 3 else (if list_any (has_verdict is_undecided) rows then 4 else 0)

-- rows, the row of their counts, and the last row with the status
abbrev pub closed : List Row → List Row
closed rows = rows ++ counts_row rows ∷ row.End (status_of rows) ∷ []

-- the rows of the report
unfoldable pub limits_rows_of : Study → List Injection → List Level → List Row
limits_rows_of study rows levels = closed (body_rows study levels (table_of study rows))

-- the status of the report
unfoldable pub limits_status : Study → List Injection → List Level → ℕ
limits_status study rows levels = status_of (body_rows study levels (table_of study rows))
