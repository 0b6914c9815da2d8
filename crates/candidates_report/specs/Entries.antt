-- The candidates of a study, each with its scan and its sizes.
use Rattle.std.specs.Prelude.{ℤ, pos, ◌-◌, ◌≤◌, ◌≤ℤ◌, List, [], ◌∷◌, length, Option, Some, None, slice_get}
use Rattle.std.specs.List.{AllByRecursion}
use Rattle.study_model.specs.Lawful.{IsLawfulScan}
use Rattle.study_model.specs.declared.limits.TheConstants.{MAX_SIZES}
use Rattle.study_model.specs.declared.records.Candidate.{Candidate}
use Rattle.study_model.specs.declared.records.ScanItem.{ScanItem}
use Rattle.study_model.specs.declared.records.Study.{Study}
use Rattle.candidates_report.specs.Sizes.{sizes_of}
use Rattle.candidates_report.specs.declared.entry.Entry.{Entry}

-- the scan of a candidate, by its number from 1
abbrev pub scan_of : Study → Candidate → Option ScanItem
scan_of study candidate = slice_get study.scans (candidate.scan - 1)

-- the sizes of a scan, before other entries; each candidate of a lawful study has a scan
abbrev pub entry_before : Study → List ℤ → Option ScanItem → List Entry → List Entry
entry_before study sizes (Some scan) entries = record { scan = scan; sizes = sizes_of study scan sizes } ∷ entries
entry_before study sizes None entries = entries

abbrev pub entries_from : Study → List Candidate → List Entry
entries_from study [] = []
entries_from study (c ∷ cs) = entry_before study c.sizes (scan_of study c) (entries_from study cs)

-- the entries of all candidates
unfoldable pub entries_of : Study → List Entry
entries_of study = entries_from study study.candidates

-- a scan of the study, and not too many sizes, each above 0
pub record IsLawfulEntry (study : Study) (entry : Entry) : Type 0 where
  pub scan : IsLawfulScan study.version study.model study.buses entry.scan
  pub few : length entry.sizes ≤ MAX_SIZES
  pub above : AllByRecursion (λ row. pos 1 ≤ℤ row.size) entry.sizes
