-- What is true of the boxes of a scan.
use Rattle.std.specs.Prelude.{◌≡◌, ℕ, ◌-◌, ◌^◌, ◌≤◌, ◌<◌, ℤ, pos, negsuc, true, false, Option, Some, Result, Ok}
use Rattle.std.specs.List.{AllByRecursion}
use Rattle.exact_algebra.specs.Ratio.{Ratio, over}
use Rattle.exact_algebra.specs.Complex.{Complex, complex_difference, complex_over}
use Rattle.complex_interval.specs.Rectangles.{Rectangle, IsAtLeastSize}
use Rattle.certified_inverse.specs.declared.outcome.InverseOutcome.{InverseOutcome}
use Rattle.certified_inverse.specs.declared.outcome.InverseOutcome.TheVariants.{Enclosed}
use Rattle.network_theory.specs.Order.{Order, IsOrder}
use Rattle.network_theory.specs.Box.{LiesIn}
use Rattle.network_theory.specs.Network.{Network}
use Rattle.network_theory.specs.DrivingPoint.{IsDrivingPoint}
use Rattle.network_theory.specs.Threshold.{Threshold}
use Rattle.network_theory.specs.Scanned.{IsCleared, IsPeak}
use Rattle.admittance_box.specs.HeldMatrix.{HoldsReduced}
use Rattle.branchwise_test.specs.Enclosed.{Near}
use Rattle.branchwise_test.specs.Holds.{IsNear}
use Rattle.branchwise_test.specs.declared.fault.BranchwiseFault.{BranchwiseFault}
use Rattle.band_subdivision.specs.Boxes.{BoxTest, above_at, IsTestable, Widths, boxes_of}
use Rattle.band_subdivision.specs.Split.{NamesNoPeak}
use Rattle.band_subdivision.specs.IntervalTest.{elimination_test}
use Rattle.band_subdivision.specs.InverseTest.{inverse_test}
use Rattle.band_subdivision.specs.BranchwisePart.{branchwise_part}
use Rattle.band_subdivision.specs.Levels.{Levels, AreLevelsOf, orders}
use Rattle.band_subdivision.specs.Parts.{either, where_near}
use Rattle.scan_report.specs.declared.boxes.Kind.{Kind}
use Rattle.scan_report.specs.declared.boxes.Kind.TheVariants.{Cleared, Peak, Undecided}
use Rattle.scan_report.specs.declared.boxes.BoxRow.{BoxRow}

-- the node of a network that a scan looks at, its threshold in ohms, and its base values in kV and MVA
pub record Scanned : Type 0 where
  pub network : Network
  pub node : ℕ
  pub threshold : Threshold
  pub kv : Ratio
  pub mva : Ratio

-- so many millionths
abbrev pub millionths : ℤ → Ratio
millionths d = over d (10 ^ 6)

-- a scan with base values of so many millionths
abbrev pub scanned_by : Threshold → ℤ → ℤ → Network → ℕ → Scanned
scanned_by threshold kv mva network node = record { network = network; node = node; threshold = threshold; kv = millionths kv; mva = millionths mva }

-- the impedance exists and is within the threshold at every order from lo to hi
abbrev pub IsClearedBox : Scanned → ℕ → ℕ → Type 0
IsClearedBox s lo hi = IsCleared s.network s.node s.threshold s.kv s.mva (orders lo hi)

-- at the order `at`, from lo to hi, it exists, is above, and has at least so many micro-ohms
abbrev pub IsTruePeak : Scanned → ℕ → ℕ → ℕ → ℤ → Type 0
IsTruePeak s lo hi at (pos micro_ohms) = IsPeak s.network s.node s.threshold s.kv s.mva (orders lo hi) at micro_ohms
IsTruePeak s lo hi at (negsuc n) = ⊥

-- a box of at most the finest width that isn't cleared, and in which the test names no peak
pub record IsUndecided (test : BoxTest) (widths : Widths) (lo hi : ℕ) : Type 0 where
  pub narrow : hi - lo ≤ widths.finest
  pub unclear : test.clear lo hi ≡ false
  pub no_peak : NamesNoPeak test lo hi

-- what each kind says of a box
abbrev pub IsTrueKind : Scanned → BoxTest → Widths → ℕ → ℕ → Kind → Type 0
IsTrueKind s test widths lo hi Cleared = IsClearedBox s lo hi
IsTrueKind s test widths lo hi (Peak at micro_ohms) = IsTruePeak s lo hi at micro_ohms
IsTrueKind s test widths lo hi Undecided = IsUndecided test widths lo hi

-- what a row says is true
abbrev pub IsTrueRow : Scanned → BoxTest → Widths → BoxRow → Type 0
IsTrueRow s test widths row = IsTrueKind s test widths row.lo row.hi row.kind

-- what a test says of a box from an order on is true
pub record IsSound (from : ℕ) (s : Scanned) (test : BoxTest) : Type 0 where
  pub clear : (lo hi : ℕ) → IsTestable from lo hi → test.clear lo hi ≡ true → IsClearedBox s lo hi
  pub above : (at : ℕ) (micro_ohms : ℤ) → IsTestable from at at → above_at test at ≡ Some micro_ohms → IsTruePeak s at at at micro_ohms

-- where there is a reduced admittance over a box of orders, it holds the exact one at every order in it
pub record ReducesTo (scale from : ℕ) (reduced : ℕ → ℕ → Option Rectangle) (network : Network) (node : ℕ) : Type 0 where
  pub at_each : (lo hi : ℕ) (held : Rectangle) (h : Order) → IsTestable from lo hi → reduced lo hi ≡ Some held → IsOrder h → LiesIn h (orders lo hi) → HoldsReduced scale network h node held

-- the elimination part is sound where the reduced admittances hold the exact ones
abbrev pub EliminationTestIsSound : Type 0
EliminationTestIsSound =
    (scale from : ℕ) (threshold : Threshold) (kv mva : ℤ) (levels : ℕ → ℕ → Levels) (reduced : ℕ → ℕ → Option Rectangle) (network : Network) (node : ℕ) → AreLevelsOf from threshold kv mva levels → ReducesTo scale from reduced network node
    → IsSound from (scanned_by threshold kv mva network node) (elimination_test scale levels reduced)

-- at an order the driving-point impedance exists, and lies within error/2^scale of (re + j im)/2^scale, in the sum of the sizes of both parts
pub record IsImpedanceNear (scale : ℕ) (network : Network) (h : Order) (node : ℕ) (re im : ℤ) (error : ℕ) : Type 0 where
  pub Z : Complex
  pub exists : IsDrivingPoint network h node Z
  pub near : IsAtLeastSize scale error (complex_difference Z (complex_over re im (2 ^ scale)))

-- where there is an enclosure over a box of orders, it says this at every order in it
pub record EnclosesImpedance (scale from : ℕ) (enclosed : ℕ → ℕ → InverseOutcome) (network : Network) (node : ℕ) : Type 0 where
  pub at_each : (lo hi : ℕ) (re im : ℤ) (error : ℕ) (h : Order) → IsTestable from lo hi → enclosed lo hi ≡ Enclosed re im error → IsOrder h → LiesIn h (orders lo hi) → IsImpedanceNear scale network h node re im error

-- the inverse part is sound where the enclosures hold the impedances
abbrev pub InverseTestIsSound : Type 0
InverseTestIsSound =
    (scale from : ℕ) (threshold : Threshold) (kv mva : ℤ) (levels : ℕ → ℕ → Levels) (enclosed : ℕ → ℕ → InverseOutcome) (network : Network) (node : ℕ) → AreLevelsOf from threshold kv mva levels → EnclosesImpedance scale from enclosed network node
    → IsSound from (scanned_by threshold kv mva network node) (inverse_test scale levels enclosed)

-- where there is an estimate over a box of orders, the impedance lies near it at every order in it
pub record EstimatesImpedance (scale from : ℕ) (estimated : ℕ → ℕ → Result Near BranchwiseFault) (network : Network) (node : ℕ) : Type 0 where
  pub at_each : (lo hi : ℕ) (near : Near) (h : Order) → IsTestable from lo hi → estimated lo hi ≡ Ok near → IsOrder h → LiesIn h (orders lo hi) → IsNear scale network h node near

-- the branch-wise part is sound where the impedances lie near the estimates
abbrev pub BranchwisePartIsSound : Type 0
BranchwisePartIsSound =
    (scale from : ℕ) (threshold : Threshold) (kv mva : ℤ) (levels : ℕ → ℕ → Levels) (estimated : ℕ → ℕ → Result Near BranchwiseFault) (network : Network) (node : ℕ) → AreLevelsOf from threshold kv mva levels → EstimatesImpedance scale from estimated network node
    → IsSound from (scanned_by threshold kv mva network node) (branchwise_part scale levels estimated)

-- a test that passes where one of two sound ones does is sound, and so is a sound one that is asked of some boxes alone
pub record PartsAreSound : Type 0 where
  pub either : (from : ℕ) (s : Scanned) (first second : BoxTest) → IsSound from s first → IsSound from s second → IsSound from s (either first second)
  pub near : (from : ℕ) (s : Scanned) (locate : ℕ) (test : BoxTest) → IsSound from s test → IsSound from s (where_near locate test)

-- by a sound test, what each box of a band says is true
abbrev pub BoxesAreTrue : Type 0
BoxesAreTrue = (from : ℕ) (s : Scanned) (test : BoxTest) (widths : Widths) (lo hi : ℕ) → IsSound from s test → 1 ≤ widths.finest → widths.finest ≤ widths.locate → lo < hi → IsTestable from lo hi → AllByRecursion (IsTrueRow s test widths) (boxes_of test widths lo hi)
