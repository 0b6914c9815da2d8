-- What the report on candidates claims of a study.
use Rattle.std.specs.Prelude.{◌≡◌, ℤ, true, List, IfSome, IsSomeAnd}
use Rattle.std.specs.List.{AllByRecursion}
use Rattle.study_model.specs.declared.records.Candidate.{Candidate}
use Rattle.study_model.specs.declared.records.ScanItem.{ScanItem}
use Rattle.study_model.specs.declared.records.Study.{Study}
use Rattle.study_scans.specs.Claim.{looked_over, HoldsOfBoxes}
use Rattle.study_variants.specs.Scratch.{scratch_boxes, NoSumIsOut}
use Rattle.study_variants.specs.Sizes.{Sizing, size_test, size_boxes, size_row, size_network, IsSafe}
use Rattle.candidates_report.specs.Entries.{scan_of}
use Rattle.candidates_report.specs.First.{is_safe, first_safe}
use Rattle.candidates_report.specs.Sizes.{sizing_of, sizes_of}

-- One size: its boxes cover the band, and what each says is true of the network with that bank. Where none is a peak or undecided, at every order of
-- the band the impedance of that network exists and is within the threshold. Where no sum is out of range, they are the boxes of a scan of it from scratch.
pub record HoldsOfSize (study : Study) (c : Sizing) (q : ℤ) : Type 0 where
  pub boxes : HoldsOfBoxes (looked_over c.spec (size_network c q) c.driven) (size_test study.scale c q) c.spec (size_boxes study.scale c q)
  pub safe : is_safe (size_row study.scale c q) ≡ true → IsSafe c q
  pub scratch : NoSumIsOut study.scale c q → size_boxes study.scale c q ≡ scratch_boxes study.scale c q

-- a candidate of a scan: so it is of each of its sizes, and the size that is named first is safe
pub record HoldsOfEntry (study : Study) (scan : ScanItem) (sizes : List ℤ) : Type 0 where
  pub each : AllByRecursion (HoldsOfSize study (sizing_of study scan sizes)) sizes
  pub first : IfSome (first_safe (sizes_of study scan sizes)) (IsSafe (sizing_of study scan sizes))

-- a candidate has a scan, of which it holds
abbrev pub HoldsOfCandidate : Study → Candidate → Type 0
HoldsOfCandidate study candidate = IsSomeAnd (scan_of study candidate) (λ scan. HoldsOfEntry study scan candidate.sizes)

-- so it is of each candidate of a study
abbrev pub HoldsOfCandidates : Study → Type 0
HoldsOfCandidates study = AllByRecursion (HoldsOfCandidate study) study.candidates
