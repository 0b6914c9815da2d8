-- The rows of a report on outages, as they are put one after another.
use Rattle.std.proofs.Common.{◌≡◌, ◌∙◌, ℕ, List, [], ◌∷◌, ◌++◌, map, ap, append_assoc}
use Rattle.scan_report.specs.declared.rows.Row.{Row}
use Rattle.scan_report.specs.declared.rows.Row.TheVariants as row
use Rattle.study_model.specs.declared.records.ScanItem.{ScanItem}
use Rattle.study_model.specs.declared.records.Study.{Study}
use Rattle.outages_report.specs.declared.table.OutageCases.{OutageCases}
use Rattle.outages_report.specs.Envelopes.{envelope_row, envelopes_from}
use Rattle.outages_report.specs.Report.{outages_rows_of, outages_status}
use Rattle.outages_report.specs.Table.{table_of, rows_from, status_of}
use Rattle.outages_report.proofs.Columns.{envelopes_are}

pub rows_are : (study : Study) (table : List OutageCases) (scans : List ScanItem) (status : ℕ) (none outages envelopes rows : List Row) → table ≡ table_of study → scans ≡ study.scans → status ≡ status_of table
    → none ≡ [] → outages ≡ none ++ rows_from 1 table → envelopes ≡ outages ++ envelopes_from table 0 scans → rows ≡ envelopes ++ row.End status ∷ [] → rows ≡ outages_rows_of study
unfolding outages_rows_of outages_status
rows_are study table scans status none outages envelopes rows is all ends begun first second last =
    let front : outages ≡ rows_from 1 (table_of study) = first ∙ ap (λ (l : List Row). l ++ rows_from 1 table) begun ∙ ap (rows_from 1) is in
    let middle : envelopes_from table 0 scans ≡ map (envelope_row study) study.scans = ap (λ (t : List OutageCases). envelopes_from t 0 scans) is ∙ ap (envelopes_from (table_of study) 0) all ∙ envelopes_are study in
    let end : row.End status ≡ row.End (status_of (table_of study)) = ap row.End (ends ∙ ap status_of is) in
    last ∙ ap (λ (l : List Row). l ++ row.End status ∷ []) second
    ∙ append_assoc outages (envelopes_from table 0 scans) (row.End status ∷ [])
    ∙ ap (λ (l : List Row). l ++ (envelopes_from table 0 scans ++ row.End status ∷ [])) front
    ∙ ap (λ (l : List Row). rows_from 1 (table_of study) ++ (l ++ row.End status ∷ [])) middle
    ∙ ap (λ (r : Row). rows_from 1 (table_of study) ++ (map (envelope_row study) study.scans ++ r ∷ [])) end
