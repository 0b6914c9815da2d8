-- What is asked of a scan of a lawful study is in range.
use Rattle.std.proofs.Common.{◌≡◌, ◌≤◌, ◌<◌, ◌-◌, ℕ, ℤ, pos, negsuc, ◌≤ℤ◌, unsigned_abs, List, length, Option, Some, None, arith}
use Rattle.std.proofs.lemmas.Int.{ints}
use Rattle.band_subdivision.specs.Boxes.{IsTestable}
use Rattle.band_subdivision.specs.ScanSpec.{IsScanSpec}
use Rattle.band_subdivision.specs.declared.scan_spec.ScanSpec.{ScanSpec}
use Rattle.band_subdivision.proofs.Scans.{from_above}
use Rattle.element_parts.proofs.Values.{kv_within}
use Rattle.scan_report.specs.Rows.{IsAboveZero}
use Rattle.study_model.specs.Lawful.{IsLawful, IsLawfulScan, IsThreshold}
use Rattle.study_model.specs.Curve.{Spans, curve_points}
use Rattle.study_model.specs.Range.{IsIn}
use Rattle.study_model.specs.declared.curve.Curve.{Curve}
use Rattle.study_model.specs.declared.curve.CurvePoint.{CurvePoint}
use Rattle.study_model.specs.declared.range.Range.{Range}
use Rattle.study_model.specs.declared.range.TheConstants.Range.{BAND, FINEST, LOCATE}
use Rattle.study_model.specs.declared.records.ScanItem.{ScanItem}
use Rattle.study_model.specs.declared.records.Study.{Study}
use Rattle.study_scans.specs.Scan.{spec_of}

-- a value of a range that has none below 0 is in it by its size
in_size : (range : Range) (d : ℤ) → pos 0 ≤ℤ range.low → IsIn range d → IsIn range (pos (unsigned_abs d))
in_size range (pos n) low in_range = in_range
in_size range (negsuc n) low in_range = absurd (omega (arith, ints, low, in_range.0))

-- orders that are not below 0, as sizes
spans_sizes : (points : List CurvePoint) (from to : ℤ) → pos 0 ≤ℤ from → pos 0 ≤ℤ to → Spans points from to → Spans points (pos (unsigned_abs from)) (pos (unsigned_abs to))
spans_sizes points (pos from) (pos to) low low' spans = spans
spans_sizes points (pos from) (negsuc to) low low' spans = absurd (omega (arith, ints, low'))
spans_sizes points (negsuc from) to low low' spans = absurd (omega (arith, ints, low))

-- what is asked of a scan is in range
pub spec_in_range : (study : Study) (scan : ScanItem) → IsLawful study → IsLawfulScan study.version study.model study.buses scan → IsScanSpec (spec_of study scan)
spec_in_range study scan b s =
    let kv = kv_within study.buses scan.bus b.buses s.bus in
    record {
      levels = record { curve = s.curve.0; spans = spans_sizes (curve_points scan.curve) scan.from scan.to (omega (arith, ints, s.from.0)) (omega (arith, ints, s.to.0.0)) s.curve.1; kv = kv; mva = b.mva };
      from = in_size BAND scan.from (omega (arith, ints)) s.from;
      to = in_size BAND scan.to (omega (arith, ints)) s.to.0;
      band = omega (arith, ints, s.to.1, s.from.0, s.to.0.0);
      finest = in_size FINEST scan.finest (omega (arith, ints)) s.finest.0;
      few = omega (arith, ints, s.finest.1, s.finest.0.0, s.from.0, s.to.0.0);
      wide = in_size LOCATE scan.locate (omega (arith, ints)) s.locate.0;
      locate = omega (arith, ints, s.locate.1, s.finest.0.0, s.locate.0.0);
    }

pub band_testable : (spec : ScanSpec) → IsScanSpec spec → IsTestable spec.from spec.from spec.to
band_testable spec s = record { above = from_above spec s; begins = omega arith; ordered = omega (arith, s.band) }

-- a threshold in ohms, where there is one, is above 0
pub threshold_above : (version : ℕ) (threshold : Option ℤ) (curve : Curve) → IsThreshold version threshold curve → IsAboveZero threshold
threshold_above version None curve h = tt
threshold_above version (Some ohms) curve h = let low = h.1.0 in omega (arith, ints, low)
