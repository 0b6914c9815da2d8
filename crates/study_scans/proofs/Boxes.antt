-- The boxes of a scan have texts, and are few.
use Rattle.std.proofs.Common.{◌≡◌, ◌⊎◌, inl, inr, ◌≤◌, ◌<◌, ◌-◌, Bool, true, false, nat_le, ℕ, ℤ, unsigned_abs, List, length, Option, Some, None, refl, arith}
use Rattle.std.specs.Prelude.{if◌then◌else◌}
use Rattle.std.proofs.lemmas.Int.{ints}
use Rattle.std.specs.List.{AllByRecursion}
use Rattle.network_theory.specs.Network.{Network}
use Rattle.network_theory.specs.Reach.{is_live}
use Rattle.band_subdivision.specs.Boxes.{BoxTest, Widths, middle, kind_of}
use Rattle.band_subdivision.specs.BoxText.{ohms_of_kind, HasText}
use Rattle.band_subdivision.specs.Parts.{nowhere}
use Rattle.band_subdivision.specs.ScanSpec.{asked_of, widths_of, IsScanSpec, nothing}
use Rattle.band_subdivision.specs.Split.{ComesFrom, itself, lower, upper}
use Rattle.band_subdivision.specs.declared.scan_spec.ScanSpec.{ScanSpec}
use Rattle.band_subdivision.proofs.Curves.{levels_hold}
use Rattle.band_subdivision.proofs.Scans.{some_width}
use Rattle.band_subdivision.proofs.Splits.{all_along, boxes_come}
use Rattle.band_subdivision.proofs.Texts.{boxes_have_text}
use Rattle.scan_report.specs.Rows.{IsOhms}
use Rattle.scan_report.specs.declared.boxes.BoxRow.{BoxRow}
use Rattle.scan_report.specs.declared.boxes.Kind.{Kind}
use Rattle.scan_report.specs.declared.boxes.Kind.TheVariants.{Cleared, Peak, Undecided}
use Rattle.study_model.specs.Lawful.{IsLawful, IsLawfulScan}
use Rattle.study_model.specs.declared.records.ScanItem.{ScanItem}
use Rattle.study_model.specs.declared.records.Study.{Study}
use Rattle.study_networks.specs.Scanned.{scanned_network, scanned_node}
use Rattle.study_scans.specs.Fold.{most_boxes}
use Rattle.study_scans.specs.Scan.{spec_of, ordering_of, live_test, test_over, test_of, boxes_by, boxes_for, boxes_in}
use Rattle.study_scans.proofs.Asked.{spec_in_range, band_testable}
use Rattle.study_scans.proofs.BoxCount.{boxes_few}

-- where no test passes no box is a peak
no_peak : (widths : Widths) (lo hi : ℕ) (kind : Kind) → kind_of nowhere widths lo hi ≡ Some kind → IsOhms (ohms_of_kind kind)
unfolding kind_of
no_peak widths lo hi Cleared e = tt
no_peak widths lo hi Undecided e = tt
no_peak widths lo hi (Peak at ohms) e = absurd (go (nat_le (hi - lo) widths.locate) (nat_le (hi - lo) widths.finest) e)
  where
    go : (near fine : Bool) → (if near then (if fine then Some Undecided else None) else (if fine then Some Undecided else None)) ≡ Some (Peak at ohms) → ⊥
    go true true h = absurd cc
    go true false h = absurd cc
    go false true h = absurd cc
    go false false h = absurd cc

unfed_text : (widths : Widths) (lo hi : ℕ) (row : BoxRow) → ComesFrom nowhere widths lo hi row → HasText row
unfed_text widths _ _ _ (itself lo hi kind up is) = no_peak widths lo hi kind is
unfed_text widths _ _ _ (lower lo hi row split rest) = unfed_text widths lo (middle lo hi) row rest
unfed_text widths _ _ _ (upper lo hi row split rest) = unfed_text widths (middle lo hi) hi row rest

-- a report can write each box of the test of a pair
pub texts_over : (scale : ℕ) (spec : ScanSpec) (low high : Network) (node : ℕ) → scale ≤ 48 → IsScanSpec spec → AllByRecursion HasText (boxes_by (test_over scale spec low high node) spec)
texts_over scale spec low high node small s = go (is_live low node)
  where
    go : (live : Bool) → AllByRecursion HasText (boxes_by (if live then live_test scale spec low high node else nowhere) spec)
    go true =
        boxes_have_text scale spec.from (asked_of spec) low high (ordering_of low node) nothing (widths_of spec) _ _ small
        (λ at testable. (levels_hold spec s.levels).in_range at at testable) (some_width _ s) s.band (band_testable spec s)
    go false =
        all_along (ComesFrom nowhere (widths_of spec) spec.from spec.to) HasText (boxes_by nowhere spec)
        (λ row. unfed_text (widths_of spec) spec.from spec.to row)
        (boxes_come nowhere (widths_of spec) _ _ (some_width _ s) s.band)

-- the boxes of a band are few, by any test
pub few_by : (test : BoxTest) (spec : ScanSpec) → IsScanSpec spec → length (boxes_by test spec) < most_boxes
few_by test spec s =
    let few = boxes_few test (widths_of spec) spec.from spec.to (some_width _ s) s.band in
    omega (arith, ints, few, s.to.1)

-- ---- a scan of a study
pub small_scale : (scale : ℕ) → (scale ≡ 40) ⊎ (scale ≡ 48) → scale ≤ 48
small_scale scale (inl e) = omega (arith, e)
small_scale scale (inr e) = omega (arith, e)

pub scan_texts : (study : Study) (scan : ScanItem) → IsLawful study → IsLawfulScan study.version study.model study.buses scan → AllByRecursion HasText (boxes_in study scan)
unfolding boxes_for test_of
scan_texts study scan b s =
    texts_over study.scale (spec_of study scan) (scanned_network study scan) (scanned_network study scan) (scanned_node scan) (small_scale study.scale b.scale) (spec_in_range study scan b s)

-- by any tests they are few
pub scan_few : (tests : ScanItem → BoxTest) (study : Study) (scan : ScanItem) → IsLawful study → IsLawfulScan study.version study.model study.buses scan → length (boxes_for tests study scan) < most_boxes
unfolding boxes_for
scan_few tests study scan b s = few_by (tests scan) (spec_of study scan) (spec_in_range study scan b s)
