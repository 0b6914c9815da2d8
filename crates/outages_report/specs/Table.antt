-- What is found for each outage of a study.
use Rattle.std.specs.Prelude.{ℕ, ◌+◌, ◌||◌, if◌then◌else◌, List, [], ◌∷◌, ◌++◌, map}
use Rattle.std.specs.List.{list_any}
use Rattle.scan_report.specs.declared.rows.Row.{Row}
use Rattle.scan_report.specs.declared.rows.Row.TheVariants as row
use Rattle.study_model.specs.declared.records.Outage.{Outage}
use Rattle.study_model.specs.declared.records.Study.{Study}
use Rattle.outages_report.specs.declared.table.OutageCases.{OutageCases}
use Rattle.outages_report.specs.Cases.{is_peak_case, is_undecided_case, cases_of, case_row}
use Rattle.outages_report.specs.Floating.{floats}
use Rattle.outages_report.specs.Names.{name_of_element}

-- the name of its element, whether it floats, and its cases
abbrev pub found_of : Study → Outage → OutageCases
found_of study outage = record { name = name_of_element study outage.element; floating = floats study outage.element; cases = cases_of study outage.element }

-- those of all outages
unfoldable pub table_of : Study → List OutageCases
table_of study = map (found_of study) study.outages

-- the rows of an outage: its own, and those of its cases
abbrev pub outage_rows : ℕ → OutageCases → List Row
outage_rows number found = row.Outage number found.name found.floating ∷ map (case_row number) found.cases

-- those of outages that are numbered from here
abbrev pub rows_from : ℕ → List OutageCases → List Row
rows_from number [] = []
rows_from number (found ∷ table) = outage_rows number found ++ rows_from (number + 1) table

-- 3 where an outage floats or a case is a peak case, else 4 where a case is undecided, else 0
abbrev pub status_of : List OutageCases → ℕ
status_of table =
    if list_any (λ found. found.floating || list_any is_peak_case found.cases) table then 3 else (if list_any (λ found. list_any is_undecided_case found.cases) table then 4 else 0)
