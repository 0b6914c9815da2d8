-- What a new walk over a band is.
use Rattle.std.specs.Prelude.{◌≡◌, ℕ}
use Rattle.network_theory.specs.Network.{Network}
use Rattle.band_subdivision.specs.Boxes.{BoxTest}
use Rattle.band_subdivision.specs.Scan.{Scanning, test_of as walk_test}
use Rattle.band_subdivision.specs.declared.scan_spec.ScanSpec.{ScanSpec}
use Rattle.study_model.specs.declared.records.ScanItem.{ScanItem}
use Rattle.study_model.specs.declared.records.Study.{Study}
use Rattle.study_scans.specs.Scan.{spec_of, test_over, test_of, boxes_by}

-- it is asked this, tests boxes by this test, and has all boxes of the band before it
pub record IsWalkBy (scale : ℕ) (spec : ScanSpec) (test : BoxTest) (walk : Scanning) : Type 0 where
  pub asked : walk.spec ≡ spec
  pub tests : walk_test scale walk ≡ test
  pub left : walk.left ≡ boxes_by test spec

-- a new walk of the networks from one to another, at a node of theirs
abbrev pub IsWalkOver : ℕ → ScanSpec → Network → Network → ℕ → Scanning → Type 0
IsWalkOver scale spec low high node walk = IsWalkBy scale spec (test_over scale spec low high node) walk

-- a new walk of a scan of a study
abbrev pub IsWalkOf : Study → ScanItem → Scanning → Type 0
IsWalkOf study scan walk = IsWalkBy study.scale (spec_of study scan) (test_of study scan) walk
