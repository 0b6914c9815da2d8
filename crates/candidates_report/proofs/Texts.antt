-- Each row of a report on candidates has a text.
use Rattle.std.proofs.Common.{ℕ, pos, ◌+◌, ◌≤ℤ◌, Bool, true, false, List, [], ◌∷◌, ◌++◌, arith}
use Rattle.std.specs.Prelude.{if◌then◌else◌, Some}
use Rattle.std.specs.List.{AllByRecursion, flat_map}
use Rattle.std.proofs.lemmas.Int.{ints}
use Rattle.scan_report.specs.Rows.{fields_of, HaveText, IsAboveZero}
use Rattle.scan_report.specs.declared.rows.Row.{Row}
use Rattle.study_model.specs.Lawful.{IsLawful}
use Rattle.study_model.specs.declared.records.Study.{Study}
use Rattle.study_scans.proofs.Asked.{threshold_above}
use Rattle.study_variants.specs.declared.size_row.SizeRow.{SizeRow}
use Rattle.candidates_report.specs.Entries.{entries_of, IsLawfulEntry}
use Rattle.candidates_report.specs.First.{is_safe, first_safe}
use Rattle.candidates_report.specs.Rows.{size_rows, first_row, entry_rows}
use Rattle.candidates_report.specs.Report.{candidates_rows_of}
use Rattle.candidates_report.specs.declared.entry.Entry.{Entry}
use Rattle.candidates_report.proofs.Listed.{lawful_entries}

abbrev Has : Row → Type 0
Has r = HaveText (fields_of r)

joined : (xs ys : List Row) → AllByRecursion Has xs → AllByRecursion Has ys → AllByRecursion Has (xs ++ ys)
joined [] ys h k = k
joined (x ∷ xs) ys h k = (h.0, joined xs ys h.1 k)

abbrev AreAbove : List SizeRow → Type 0
AreAbove sizes = AllByRecursion (λ (row : SizeRow). pos 1 ≤ℤ row.size) sizes

of_sizes : (number : ℕ) (sizes : List SizeRow) → AreAbove sizes → AllByRecursion Has (size_rows number sizes)
of_sizes number [] h = tt
of_sizes number (s ∷ sizes) h = (let above = h.0 in (tt, (omega (arith, ints, above), (tt, (tt, (tt, tt))))), of_sizes (number + 1) sizes h.1)

first_above : (sizes : List SizeRow) → AreAbove sizes → IsAboveZero (first_safe sizes)
first_above [] h = tt
first_above (s ∷ sizes) h = go (is_safe s) (first_above sizes h.1)
  where
    go : (safe : Bool) → IsAboveZero (first_safe sizes) → IsAboveZero (if safe then Some s.size else first_safe sizes)
    go true rest = let above = h.0 in omega (arith, ints, above)
    go false rest = rest

of_entry : (study : Study) (entry : Entry) → IsLawfulEntry study entry → AllByRecursion Has (entry_rows study entry)
of_entry study entry h = (
  (tt, (tt, (tt, (tt, (threshold_above study.version entry.scan.threshold entry.scan.curve h.scan.threshold, tt))))),
  joined (size_rows 1 entry.sizes) (first_row entry.scan entry.sizes ∷ []) (of_sizes 1 entry.sizes h.above) ((tt, (first_above entry.sizes h.above, tt)), tt),
)

of_entries : (study : Study) (entries : List Entry) → AllByRecursion (IsLawfulEntry study) entries → AllByRecursion Has (flat_map (entry_rows study) entries)
of_entries study [] h = tt
of_entries study (e ∷ entries) h = joined (entry_rows study e) (flat_map (entry_rows study) entries) (of_entry study e h.0) (of_entries study entries h.1)

pub have_text : (study : Study) → IsLawful study → AllByRecursion (λ row. HaveText (fields_of row)) (candidates_rows_of study)
unfolding candidates_rows_of
have_text study h = joined (flat_map (entry_rows study) (entries_of study)) _ (of_entries study (entries_of study) (lawful_entries study h)) ((tt, tt), tt)
