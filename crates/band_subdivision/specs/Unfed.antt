-- A scan of a node that isn't live: no box is cleared, and none is a peak.
use Rattle.std.specs.Prelude.{◌≡◌, ℕ, List, [], ◌∷◌, map, pos, ◌^◌}
use Rattle.exact_algebra.specs.Ratio.{Ratio, over}
use Rattle.network_theory.specs.Box.{Covers}
use Rattle.network_theory.specs.Branch.{Shunt}
use Rattle.network_theory.specs.Network.{Network}
use Rattle.scan_report.specs.declared.boxes.BoxRow.{BoxRow}
use Rattle.band_subdivision.specs.Boxes.{boxes_of}
use Rattle.band_subdivision.specs.Cover.{span_of}
use Rattle.band_subdivision.specs.Parts.{nowhere}
use Rattle.band_subdivision.specs.Scan.{Scanning, test_of, whole_list}
use Rattle.band_subdivision.specs.ScanSpec.{widths_of, nothing}
use Rattle.band_subdivision.specs.declared.scan_spec.ScanSpec.{ScanSpec}

-- the boxes of a band where the test passes nowhere
abbrev pub unfed_boxes : ScanSpec → List BoxRow
unfed_boxes spec = boxes_of nowhere (widths_of spec) spec.from spec.to

-- a new scan whose test passes nowhere, whatever the extra susceptance, and which has the whole list of such a test still to come, now and each time that it begins anew
pub record IsUnfed (scale : ℕ) (spec : ScanSpec) (s : Scanning) : Type 0 where
  pub same_spec : s.spec ≡ spec
  pub no_extra : s.extra ≡ nothing
  pub test : (e : Ratio) → test_of scale (record s { extra = e }) ≡ nowhere
  pub left : s.left ≡ unfed_boxes spec
  pub again : (e : Ratio) → whole_list scale s e ≡ unfed_boxes spec
  pub covers : Covers spec.from spec.to (map span_of s.left)

-- one bus with a shunt of 2^63 to ground: that has no interval at any scale, so the matrix has no value over any box
abbrev pub without_value : Network
without_value = record {
  buses = 1;
  nodes = 1;
  branches = record { taps = record { node = 0; ratio = over (pos 1) 1 } ∷ []; law = Shunt (over (pos (2 ^ 63)) 1); group = 0; owner = 0 } ∷ [];
}
