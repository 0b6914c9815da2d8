-- The entries of the candidates of a study.
use Rattle.std.proofs.Common.{◌≡◌, ◌∙◌, ℕ, ℤ, pos, ◌-◌, ◌<◌, ◌≤ℤ◌, List, [], ◌∷◌, map, length, refl, sym, ap, subst, arith}
use Rattle.std.specs.Prelude.{Option, Some, None, IsSomeAnd, All}
use Rattle.std.specs.List.{AllByRecursion}
use Rattle.std.proofs.lemmas.Int.{ints}
use Rattle.std.proofs.lemmas.List.Elements.{recursion_from_All, All-get_or, All-weaker}
use Rattle.std.proofs.lemmas.Option.{slice_get_within, get_or_from_slice_get}
use Rattle.study_model.specs.Lawful.{IsLawful, IsLawfulScan, IsLawfulCandidate, IsOfPositive}
use Rattle.study_model.specs.Range.{IsIn}
use Rattle.study_model.specs.declared.range.TheConstants.Range.{ABOVE_ZERO}
use Rattle.study_model.specs.declared.records.Candidate.{Candidate}
use Rattle.study_model.specs.declared.records.ScanItem.{ScanItem}
use Rattle.study_model.specs.declared.records.Study.{Study}
use Rattle.study_variants.specs.Sizes.{Sizing, size_row}
use Rattle.study_variants.specs.declared.size_row.SizeRow.{SizeRow}
use Rattle.study_variants.proofs.SizeRows.{row_size}
use Rattle.candidates_report.specs.Entries.{scan_of, entry_before, entries_from, entries_of, IsLawfulEntry}
use Rattle.candidates_report.specs.Sizes.{sizing_of, sizes_of}
use Rattle.candidates_report.specs.declared.entry.Entry.{Entry}

-- ---- the scan of a candidate
-- it is there
pub scan_within : (study : Study) (candidate : Candidate) → IsLawfulCandidate study candidate → candidate.scan - 1 < length study.scans
scan_within study candidate h = go (scan_of study candidate) refl h.scan.1
  where
    go : (o : Option ScanItem) → scan_of study candidate ≡ o → IsSomeAnd o IsOfPositive → candidate.scan - 1 < length study.scans
    go None at is = absurd is
    go (Some scan) at is = slice_get_within study.scans (candidate.scan - 1) scan at

-- of the positive network
pub of_positive : (study : Study) (candidate : Candidate) (scan : ScanItem) → IsLawfulCandidate study candidate → scan_of study candidate ≡ Some scan → IsOfPositive scan
of_positive study candidate scan h at = subst (λ (o : Option ScanItem). IsSomeAnd o IsOfPositive) at h.scan.1

-- and lawful
pub lawful_scan : (study : Study) (candidate : Candidate) (scan : ScanItem) → IsLawful study → scan_of study candidate ≡ Some scan → IsLawfulScan study.version study.model study.buses scan
lawful_scan study candidate scan h at =
    subst (IsLawfulScan study.version study.model study.buses) (get_or_from_slice_get study.scans (candidate.scan - 1) scan scan at)
    (All-get_or (IsLawfulScan study.version study.model study.buses) study.scans (candidate.scan - 1) scan (slice_get_within study.scans (candidate.scan - 1) scan at) h.scans)

-- ---- its sizes
above_each : (sizes : List ℤ) → AllByRecursion (IsIn ABOVE_ZERO) sizes → AllByRecursion (λ q. pos 1 ≤ℤ q) sizes
above_each [] h = tt
above_each (q ∷ sizes) h = (let low = h.0.0 in omega (arith, ints, low), above_each sizes h.1)

pub sizes_above : (sizes : List ℤ) → All (IsIn ABOVE_ZERO) sizes → AllByRecursion (λ q. pos 1 ≤ℤ q) sizes
sizes_above sizes h = above_each sizes (recursion_from_All (IsIn ABOVE_ZERO) sizes h)

pub all_above : (sizes : List ℤ) → All (IsIn ABOVE_ZERO) sizes → All (λ q. pos 1 ≤ℤ q) sizes
all_above sizes h = All-weaker (IsIn ABOVE_ZERO) (λ q. pos 1 ≤ℤ q) (λ q in_range. let low = in_range.0 in omega (arith, ints, low)) sizes h

-- those of their rows
rows_above : (scale : ℕ) (c : Sizing) (sizes : List ℤ) → AllByRecursion (λ q. pos 1 ≤ℤ q) sizes → AllByRecursion (λ (row : SizeRow). pos 1 ≤ℤ row.size) (map (size_row scale c) sizes)
rows_above scale c [] h = tt
rows_above scale c (q ∷ sizes) h = (subst (λ (z : ℤ). pos 1 ≤ℤ z) (sym (row_size scale c q)) h.0, rows_above scale c sizes h.1)

as_many : (f : ℤ → SizeRow) (sizes : List ℤ) → length (map f sizes) ≡ length sizes
as_many f [] = refl
as_many f (q ∷ sizes) = let rest = as_many f sizes in omega (arith, rest)

-- ---- entries
abbrev entry_with : ScanItem → List SizeRow → Entry
entry_with scan sizes = record { scan = scan; sizes = sizes }

pub entry_first : (study : Study) (candidate : Candidate) (rest : List Candidate) (scan : ScanItem) (sizes : List SizeRow) → scan_of study candidate ≡ Some scan → sizes ≡ sizes_of study scan candidate.sizes
    → entries_from study (candidate ∷ rest) ≡ record { scan = scan; sizes = sizes } ∷ entries_from study rest
entry_first study candidate rest scan sizes at is =
    ap (λ (o : Option ScanItem). entry_before study candidate.sizes o (entries_from study rest)) at
    ∙ ap (λ (l : List SizeRow). entry_with scan l ∷ entries_from study rest) (sym is)

lawful_entry : (study : Study) (candidate : Candidate) (scan : ScanItem) → IsLawful study → IsLawfulCandidate study candidate → scan_of study candidate ≡ Some scan
    → IsLawfulEntry study (record { scan = scan; sizes = sizes_of study scan candidate.sizes })
unfolding sizes_of
lawful_entry study candidate scan h k at = record {
  scan = lawful_scan study candidate scan h at;
  few = let many = as_many (size_row study.scale (sizing_of study scan candidate.sizes)) candidate.sizes in omega (arith, many, k.sizes_count.1);
  above = rows_above study.scale (sizing_of study scan candidate.sizes) candidate.sizes (sizes_above candidate.sizes k.sizes);
}

lawful_from : (study : Study) (candidates : List Candidate) → IsLawful study → AllByRecursion (IsLawfulCandidate study) candidates → AllByRecursion (IsLawfulEntry study) (entries_from study candidates)
lawful_from study [] h all = tt
lawful_from study (c ∷ cs) h all = go (scan_of study c) refl (lawful_from study cs h all.1)
  where
    go : (o : Option ScanItem) → scan_of study c ≡ o → AllByRecursion (IsLawfulEntry study) (entries_from study cs)
        → AllByRecursion (IsLawfulEntry study) (entry_before study c.sizes o (entries_from study cs))
    go (Some scan) at rest = (lawful_entry study c scan h all.0 at, rest)
    go None at rest = rest

pub lawful_candidates : (study : Study) → IsLawful study → AllByRecursion (IsLawfulCandidate study) study.candidates
lawful_candidates study h = recursion_from_All (IsLawfulCandidate study) study.candidates h.candidates

pub lawful_entries : (study : Study) → IsLawful study → AllByRecursion (IsLawfulEntry study) (entries_of study)
unfolding entries_of
lawful_entries study h = lawful_from study study.candidates h (lawful_candidates study h)
