-- Which boxes a report can write.
use Rattle.std.specs.Prelude.{ℕ, ◌≤◌, ◌<◌, ℤ, List, Option, Some, None}
use Rattle.std.specs.List.{AllByRecursion}
use Rattle.exact_algebra.specs.Ratio.{Ratio}
use Rattle.network_theory.specs.Network.{Network}
use Rattle.band_subdivision.specs.Boxes.{IsTestable, Widths, boxes_of}
use Rattle.band_subdivision.specs.Levels.{AreScanLevels}
use Rattle.band_subdivision.specs.PairTest.{Asked, pair_test}
use Rattle.scan_report.specs.Rows.{IsOhms}
use Rattle.scan_report.specs.declared.boxes.Kind.{Kind}
use Rattle.scan_report.specs.declared.boxes.Kind.TheVariants.{Cleared, Peak, Undecided}
use Rattle.scan_report.specs.declared.boxes.BoxRow.{BoxRow}

-- the micro-ohms of a peak
abbrev pub ohms_of_kind : Kind → Option ℤ
ohms_of_kind Cleared = None
ohms_of_kind (Peak at micro_ohms) = Some micro_ohms
ohms_of_kind Undecided = None

-- a box whose micro-ohms, where it has some, are from 0 to 2^120
abbrev pub HasText : BoxRow → Type 0
HasText row = IsOhms (ohms_of_kind row.kind)

-- a report can write each box of the interval test of a pair
abbrev pub BoxesHaveText : Type 0
BoxesHaveText =
    (scale from : ℕ) (asked : Asked) (low high : Network) (ordering : List ℕ) (e : Ratio) (widths : Widths) (lo hi : ℕ) → scale ≤ 48 → ((at : ℕ) → IsTestable from at at → AreScanLevels (asked.levels at at)) → 1 ≤ widths.finest → lo < hi → IsTestable from lo hi
    → AllByRecursion HasText (boxes_of (pair_test scale asked low high ordering e) widths lo hi)
