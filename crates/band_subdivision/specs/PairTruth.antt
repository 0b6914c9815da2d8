-- What is true of the boxes of a pair of networks.
use Rattle.std.specs.Prelude.{ℕ, List, ℤ, pos, ◌≤ℤ◌}
use Rattle.exact_algebra.specs.Ratio.{Ratio}
use Rattle.network_theory.specs.Network.{Network}
use Rattle.network_theory.specs.Between.{LiesBetween}
use Rattle.network_theory.specs.Extra.{scanned_network}
use Rattle.network_theory.specs.Threshold.{Threshold}
use Rattle.admittance_box.specs.HeldMatrix.{CanAssemble}
use Rattle.band_subdivision.specs.Levels.{AreLevelsOf}
use Rattle.band_subdivision.specs.PairTest.{Asked, pair_test}
use Rattle.band_subdivision.specs.Scan.{Scanning, test_of}
use Rattle.band_subdivision.specs.ScanSpec.{threshold_of, widths_of}
use Rattle.band_subdivision.specs.Truth.{Scanned, scanned_by, IsSound, IsClearedBox, IsTruePeak, IsTrueRow}
use Rattle.scan_report.specs.declared.boxes.BoxRow.{BoxRow}

-- a network of a pair, as a scan with an extra susceptance looks at it
abbrev pub scanned_with : Threshold → ℤ → ℤ → Network → ℕ → Ratio → Scanned
scanned_with threshold kv mva network driven e = scanned_by threshold kv mva (scanned_network network driven e) driven

-- a network of a pair, in a scan's own terms
abbrev pub scanned_in : Scanning → Network → Scanned
scanned_in s network = scanned_with (threshold_of s.spec) s.spec.kv s.spec.mva network s.driven s.extra

-- for each network between the pair of a scan, what a row says of a box is true
abbrev pub IsTrueForEach : ℕ → Scanning → BoxRow → Type 0
IsTrueForEach scale s row = (network : Network) → LiesBetween network s.low s.high → IsTrueRow (scanned_in s network) (test_of scale s) (widths_of s.spec) row

-- so the impedance exists and is within at every order of a box
abbrev pub IsClearForEach : Scanning → ℕ → ℕ → Type 0
IsClearForEach s lo hi = (network : Network) → LiesBetween network s.low s.high → IsClearedBox (scanned_in s network) lo hi

-- and so it exists at an order, is above, and has at least so many micro-ohms
abbrev pub IsAboveForEach : Scanning → ℕ → ℤ → Type 0
IsAboveForEach s at micro_ohms = (network : Network) → LiesBetween network s.low s.high → IsTruePeak (scanned_in s network) at at at micro_ohms

-- the test of a pair is sound for every network between the two
abbrev pub PairTestIsSound : Type 0
PairTestIsSound =
    (scale from : ℕ) (threshold : Threshold) (kv mva : ℤ) (asked : Asked) (low high : Network) (driven : ℕ) (ordering : List ℕ) (e : Ratio) → AreLevelsOf from threshold kv mva asked.levels
    → CanAssemble low high driven ordering → pos 0 ≤ℤ e.num
    → (network : Network) → LiesBetween network low high → IsSound from (scanned_with threshold kv mva network driven e) (pair_test scale asked low high ordering e)
