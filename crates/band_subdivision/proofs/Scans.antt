-- Scans that begin, and what is true of their boxes.
use Rattle.std.proofs.lemmas.Int.{ints}
use Rattle.std.proofs.Common.{◌≡◌, Bool, ◌∙◌, ℕ, ◌≤◌, ◌<◌, ◌-◌, ◌+◌, ◌*◌, List, [], ◌∷◌, ℤ, pos, ◌≤ℤ◌, true, length, map, Option, Some, None, sym, arith, append-nil}
use Rattle.std.specs.Prelude.{IfSome}
use Rattle.network_theory.specs.Box.{Covers}
use Rattle.network_theory.specs.Network.{Network}
use Rattle.admittance_box.specs.HeldMatrix.{CanAssemble}
use Rattle.admittance_box.proofs.NodeOrderings.{is_last}
use Rattle.band_subdivision.specs.Boxes.{IsTestable, middle, boxes_of, kind_of}
use Rattle.band_subdivision.specs.Cover.{span_of}
use Rattle.band_subdivision.specs.Left.{boxes_left}
use Rattle.band_subdivision.specs.PairTruth.{scanned_in, IsTrueForEach, IsClearForEach, IsAboveForEach}
use Rattle.band_subdivision.specs.Scan.{Scanning, test_of, IsScan}
use Rattle.band_subdivision.specs.ScanSpec.{IsScanSpec, asked_of, widths_of}
use Rattle.band_subdivision.specs.declared.scan_spec.ScanSpec.{ScanSpec}
use Rattle.band_subdivision.specs.Stack.{Band, IsStack, split_top}
use Rattle.band_subdivision.specs.Testing.{Testing, box_test}
use Rattle.band_subdivision.proofs.Covering.{boxes_cover}
use Rattle.band_subdivision.proofs.Levels.{HasTop, top_above, top_testable, stack_split}
use Rattle.band_subdivision.proofs.Curves.{levels_hold}
use Rattle.band_subdivision.proofs.PairSound.{pair_is_sound}
use Rattle.band_subdivision.proofs.Truths.{kind_true}
use Rattle.scan_report.specs.declared.boxes.Kind.{Kind}

-- ---- beginnings
-- a node ordering has the driven node
pub some_order : (low high : Network) (driven : ℕ) (ordering : List ℕ) → CanAssemble low high driven ordering → 1 ≤ length ordering
some_order low high driven ordering can = let (n, last) = is_last low driven ordering can.ordered in omega (arith, last.count)

-- orders and widths in their ranges are above 0
pub from_above : (spec : ScanSpec) → IsScanSpec spec → 1 ≤ spec.from
from_above spec h = let low : pos 100000 ≤ℤ pos spec.from = h.from.0 in omega (arith, ints)

pub some_width : (spec : ScanSpec) → IsScanSpec spec → 1 ≤ spec.finest
some_width spec h = let low : pos 1 ≤ℤ pos spec.finest = h.finest.0 in omega (arith, ints)

-- the band alone
abbrev pub band : Testing → List Band
band t = record { lo = t.spec.from; hi = t.spec.to } ∷ []

pub band_stack : (t : Testing) → IsScanSpec t.spec → IsStack t.spec.from t.spec.finest (band t)
band_stack t spec =
    let up = spec.band in
    let wide : t.spec.to - t.spec.from ≤ 65536 * t.spec.finest = spec.few in
    let few : t.spec.to ≤ t.spec.from + 65536 * t.spec.finest = omega (arith, wide) in
    record {
      split = some_width t.spec spec;
      fits = omega arith;
      levels = (up, few, record { above = from_above t.spec spec; begins = omega arith; ordered = omega arith }, tt);
    }

pub scan_begins : (t : Testing) → IsScanSpec t.spec → CanAssemble t.low t.high t.driven t.ordering → pos 0 ≤ℤ t.extra.num → IsScan t (band t)
scan_begins t spec ready natural = record { spec = spec; ready = ready; natural = natural; stack = band_stack t spec }

pub band_left : (scale : ℕ) (t : Testing) → boxes_left (box_test scale t) (widths_of t.spec) (band t) ≡ boxes_of (box_test scale t) (widths_of t.spec) t.spec.from t.spec.to
band_left scale t = append-nil (boxes_of (box_test scale t) (widths_of t.spec) t.spec.from t.spec.to)

pub band_covers : (scale : ℕ) (t : Testing) → IsScanSpec t.spec → Covers t.spec.from t.spec.to (map span_of (boxes_left (box_test scale t) (widths_of t.spec) (band t)))
band_covers scale t spec = rw (band_left scale t) (boxes_cover (box_test scale t) (widths_of t.spec) t.spec.from t.spec.to (some_width t.spec spec) spec.band)

-- ---- truths
module _ (scale : ℕ) (s : Scanning) (spec : IsScanSpec s.spec) (ready : CanAssemble s.low s.high s.driven s.ordering) (natural : pos 0 ≤ℤ s.extra.num) where
  -- a box that the test clears
  pub clear_for_each : (lo hi : ℕ) → IsTestable s.spec.from lo hi → (test_of scale s).clear lo hi ≡ true → IsClearForEach s lo hi
  clear_for_each lo hi testable is network between =
      (pair_is_sound scale _ _ _ _ (asked_of s.spec) s.low s.high s.driven s.ordering s.extra (levels_hold s.spec spec.levels) ready natural network between).clear lo hi testable is

  -- an order at which it finds the impedance above
  pub above_for_each : (at : ℕ) (found : Option ℤ) → IsTestable s.spec.from at at → found ≡ (test_of scale s).above at at → IfSome found (λ ohms. IsAboveForEach s at ohms)
  above_for_each at None testable is = tt
  above_for_each at (Some ohms) testable is =
      λ network between. (pair_is_sound scale _ _ _ _ (asked_of s.spec) s.low s.high s.driven s.ordering s.extra (levels_hold s.spec spec.levels) ready natural network between).above at ohms testable (sym is)

  -- a box with its kind
  pub true_for_each : (lo hi : ℕ) (kind : Kind) → IsTestable s.spec.from lo hi → lo < hi → Some kind ≡ kind_of (test_of scale s) (widths_of s.spec) lo hi
      → IsTrueForEach scale s (record { lo = lo; hi = hi; kind = kind })
  true_for_each lo hi kind testable up is network between =
      kind_true s.spec.from (scanned_in s network) (test_of scale s) (widths_of s.spec) lo hi kind
      (pair_is_sound scale _ _ _ _ (asked_of s.spec) s.low s.high s.driven s.ordering s.extra (levels_hold s.spec spec.levels) ready natural network between) spec.locate (record { up = up; testable = testable }) (sym is)

-- ---- the same by a scan's parts
-- the test of a scan
abbrev pub test_in : Scanning → Testing
test_in s = record { spec = s.spec; low = s.low; high = s.high; driven = s.driven; ordering = s.ordering; extra = s.extra }

-- a box in the band may be tested
in_band : (s : Scanning) → IsScanSpec s.spec → (lo hi : ℕ) → s.spec.from ≤ lo → lo ≤ hi → hi ≤ s.spec.to → IsTestable s.spec.from lo hi
in_band s spec lo hi from ordered to = record { above = omega (arith, from_above s.spec spec); begins = from; ordered = ordered }

pub clear_here : (scale : ℕ) (t : Testing) (s : Scanning) (bands : List Band) → t ≡ test_in s → IsScan t bands → (lo hi : ℕ) → s.spec.from ≤ lo → lo ≤ hi → hi ≤ s.spec.to
    → (clear : Bool) → clear ≡ (box_test scale t).clear lo hi → clear ≡ true → IsClearForEach s lo hi
clear_here scale t s bands same scan lo hi from ordered to clear is passed =
    let whole : IsScan (test_in s) bands = rw same at scan in
    let told : clear ≡ (box_test scale (test_in s)).clear lo hi = rw same at is in
    clear_for_each scale s whole.spec whole.ready whole.natural lo hi (in_band s whole.spec lo hi from ordered to) (sym told ∙ passed)

pub above_here : (scale : ℕ) (t : Testing) (s : Scanning) (bands : List Band) → t ≡ test_in s → IsScan t bands → (lo hi : ℕ) → s.spec.from ≤ lo → lo ≤ hi → hi ≤ s.spec.to
    → (found : Option ℤ) → found ≡ (box_test scale t).above lo hi → lo ≡ hi → IfSome found (λ ohms. IsAboveForEach s lo ohms)
above_here scale t s bands same scan lo hi from ordered to found is point =
    let whole : IsScan (test_in s) bands = rw same at scan in
    let told : found ≡ (box_test scale (test_in s)).above lo hi = rw same at is in
    let there : found ≡ (box_test scale (test_in s)).above lo lo = rw (← point) at told in
    above_for_each scale s whole.spec whole.ready whole.natural lo found (in_band s whole.spec lo lo from (omega arith) (omega arith)) there

pub true_here : (scale : ℕ) (t : Testing) (s : Scanning) (bands : List Band) → t ≡ test_in s → IsScan t bands → (lo hi : ℕ) (kind : Kind) → HasTop bands lo hi
    → Some kind ≡ kind_of (box_test scale t) (widths_of t.spec) lo hi → IsTrueForEach scale s (record { lo = lo; hi = hi; kind = kind })
true_here scale t s bands same scan lo hi kind top is =
    let whole : IsScan (test_in s) bands = rw same at scan in
    let told : Some kind ≡ kind_of (box_test scale (test_in s)) (widths_of s.spec) lo hi = rw same at is in
    true_for_each scale s whole.spec whole.ready whole.natural lo hi kind (top_testable s.spec.from s.spec.finest bands lo hi whole.stack top) (top_above s.spec.from s.spec.finest bands lo hi whole.stack top) told

-- a split keeps what a scan keeps
pub scan_split : (t : Testing) (bands : List Band) (lo hi : ℕ) → IsScan t bands → HasTop bands lo hi → t.spec.finest < hi - lo → IsScan t (split_top bands (middle lo hi))
scan_split t bands lo hi scan top wide = record { spec = scan.spec; ready = scan.ready; natural = scan.natural; stack = stack_split t.spec.from t.spec.finest bands lo hi scan.stack top wide }
