-- What a scan is seen as, and what it keeps.
use Rattle.std.specs.Prelude.{◌≡◌, ℕ, pos, ◌≤ℤ◌, List, map}
use Rattle.exact_algebra.specs.Ratio.{Ratio}
use Rattle.network_theory.specs.Box.{Covers}
use Rattle.network_theory.specs.Network.{Network}
use Rattle.admittance_box.specs.HeldMatrix.{CanAssemble}
use Rattle.band_subdivision.specs.Boxes.{BoxTest, boxes_of}
use Rattle.band_subdivision.specs.Cover.{span_of}
use Rattle.band_subdivision.specs.PairTest.{pair_test}
use Rattle.band_subdivision.specs.ScanSpec.{asked_of, widths_of, IsScanSpec, nothing}
use Rattle.band_subdivision.specs.Stack.{Band, IsStack}
use Rattle.band_subdivision.specs.Testing.{Testing}
use Rattle.band_subdivision.specs.declared.scan_spec.ScanSpec.{ScanSpec}
use Rattle.scan_report.specs.declared.boxes.BoxRow.{BoxRow}

-- a scan: its pair of networks, its driven node with the node ordering, the extra susceptance there, and the boxes still to come
pub record Scanning : Type 0 where
  pub spec : ScanSpec
  pub low : Network
  pub high : Network
  pub driven : ℕ
  pub ordering : List ℕ
  pub extra : Ratio
  pub left : List BoxRow

-- the scan's test of boxes, at a scale of intervals
abbrev pub test_of : ℕ → Scanning → BoxTest
test_of scale s = pair_test scale (asked_of s.spec) s.low s.high s.ordering s.extra

-- all boxes of the scan's band, at an extra susceptance
abbrev pub whole_list : ℕ → Scanning → Ratio → List BoxRow
whole_list scale s e = boxes_of (pair_test scale (asked_of s.spec) s.low s.high s.ordering e) (widths_of s.spec) s.spec.from s.spec.to

-- a new scan of this pair, which has its whole list of boxes still to come, without an extra susceptance
pub record IsScanOf (scale : ℕ) (low high : Network) (driven : ℕ) (spec : ScanSpec) (s : Scanning) : Type 0 where
  pub same_spec : s.spec ≡ spec
  pub from_low : s.low ≡ low
  pub to_high : s.high ≡ high
  pub at : s.driven ≡ driven
  pub ready : CanAssemble low high driven s.ordering
  pub no_extra : s.extra ≡ nothing
  pub left : s.left ≡ whole_list scale s nothing
  pub covers : Covers spec.from spec.to (map span_of s.left)

-- a test that a scan can use, and the bands that are still to come
pub record IsScan (t : Testing) (bands : List Band) : Type 0 where
  pub spec : IsScanSpec t.spec
  pub ready : CanAssemble t.low t.high t.driven t.ordering
  pub natural : pos 0 ≤ℤ t.extra.num
  pub stack : IsStack t.spec.from t.spec.finest bands
