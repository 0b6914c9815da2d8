-- A network that is scanned with a bank at its driven node, in one size after another.
use Rattle.std.specs.Prelude.{◌≡◌, ℕ, ℤ, pos, ◌≤◌, ◌≤ℤ◌, List, length, All}
use Rattle.network_theory.specs.Extra.{with_shunt}
use Rattle.network_theory.specs.Network.{Network, IsWhole}
use Rattle.element_parts.specs.PerUnit.{susceptance_of_rating}
use Rattle.admittance_box.specs.HeldMatrix.{CanAssemble}
use Rattle.band_subdivision.specs.Boxes.{BoxTest}
use Rattle.band_subdivision.specs.PairTest.{pair_test}
use Rattle.band_subdivision.specs.Scan.{Scanning}
use Rattle.band_subdivision.specs.ScanSpec.{IsScanSpec, asked_of}
use Rattle.band_subdivision.specs.Truth.{IsClearedBox}
use Rattle.band_subdivision.specs.declared.scan_spec.ScanSpec.{ScanSpec}
use Rattle.scan_report.specs.declared.boxes.BoxRow.{BoxRow}
use Rattle.study_scans.specs.Claim.{looked_over}
use Rattle.study_scans.specs.Scan.{boxes_by}
use Rattle.study_variants.specs.Kinds.{row_of_boxes}
use Rattle.study_variants.specs.declared.size_row.SizeRow.{SizeRow}

-- what is asked, the network with its driven node and node ordering, the sizes in millionths of an MVAr, and how many have been given
pub record Sizing : Type 0 where
  pub spec : ScanSpec
  pub network : Network
  pub driven : ℕ
  pub ordering : List ℕ
  pub sizes : List ℤ
  pub given : ℕ

-- what is seen of a scan of one network, of these sizes
abbrev pub sizing_of : Scanning → List ℤ → ℕ → Sizing
sizing_of scan sizes given = record { spec = scan.spec; network = scan.low; driven = scan.driven; ordering = scan.ordering; sizes = sizes; given = given }

-- the network as it is kept, with the extra susceptance q/mva at the driven node: its test of boxes, at a scale of intervals
abbrev pub size_test : ℕ → Sizing → ℤ → BoxTest
size_test scale c q = pair_test scale (asked_of c.spec) c.network c.network c.ordering (susceptance_of_rating q c.spec.mva)

-- and the boxes of its band
abbrev pub size_boxes : ℕ → Sizing → ℤ → List BoxRow
size_boxes scale c q = boxes_by (size_test scale c q) c.spec

-- a size with the counts of these boxes
unfoldable pub size_row : ℕ → Sizing → ℤ → SizeRow
size_row scale c q = row_of_boxes q (size_boxes scale c q)

-- the size's network: the one that is kept, with one more Shunt of q/mva from the driven node to ground
abbrev pub size_network : Sizing → ℤ → Network
size_network c q = with_shunt c.network c.driven (susceptance_of_rating q c.spec.mva)

-- at every order of the band the impedance of the size's network exists and is within the threshold
abbrev pub IsSafe : Sizing → ℤ → Type 0
IsSafe c q = IsClearedBox (looked_over c.spec (size_network c q) c.driven) c.spec.from c.spec.to

-- the candidates of this network, driven node and spec, and of these sizes, of which none has been given
pub record AreCandidatesOf (network : Network) (driven : ℕ) (spec : ScanSpec) (sizes : List ℤ) (c : Sizing) : Type 0 where
  pub same_spec : c.spec ≡ spec
  pub same_network : c.network ≡ network
  pub at : c.driven ≡ driven
  pub ready : CanAssemble network network driven c.ordering
  pub same_sizes : c.sizes ≡ sizes
  pub none_given : c.given ≡ 0

-- what is kept: a scan of one network, its base power, sizes above 0, and at most as many given as there are
pub record IsSizing (scan : Scanning) (mva : ℤ) (sizes : List ℤ) (given : ℕ) : Type 0 where
  pub spec : IsScanSpec scan.spec
  pub alone : scan.high ≡ scan.low
  pub whole : IsWhole scan.low
  pub ready : CanAssemble scan.low scan.low scan.driven scan.ordering
  pub same_mva : mva ≡ scan.spec.mva
  pub above : All (λ q. pos 1 ≤ℤ q) sizes
  pub count : given ≤ length sizes
