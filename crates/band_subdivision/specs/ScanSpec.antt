-- What a scan is asked.
use Rattle.std.specs.Prelude.{ℕ, pos, ◌-◌, ◌*◌, ◌≤◌, ◌<◌}
use Rattle.exact_algebra.specs.Ratio.{Ratio, over}
use Rattle.network_theory.specs.Threshold.{Threshold}
use Rattle.study_model.specs.Curve.{curve_points, IsLawfulCurve, Spans}
use Rattle.study_model.specs.Range.{IsIn}
use Rattle.study_model.specs.declared.limits.TheConstants.{MAX_WIDTHS}
use Rattle.study_model.specs.declared.range.TheConstants.Range.{BAND, BASE_MVA, BUS_KV, FINEST, LOCATE}
use Rattle.threshold_curve.specs.Curve.{curve_at, least_over}
use Rattle.band_subdivision.specs.Boxes.{Widths}
use Rattle.band_subdivision.specs.Levels.{Levels}
use Rattle.band_subdivision.specs.PairTest.{Asked}
use Rattle.band_subdivision.specs.declared.scan_spec.ScanSpec.{ScanSpec}

-- the threshold in ohms at each order
abbrev pub threshold_of : ScanSpec → Threshold
threshold_of spec = curve_at (curve_points spec.curve)

-- the levels of the box from lo to hi
abbrev pub levels_of : ScanSpec → ℕ → ℕ → Levels
levels_of spec lo hi = record { threshold = least_over (curve_points spec.curve) lo hi; kv = spec.kv; mva = spec.mva }

-- what is asked of its test
abbrev pub asked_of : ScanSpec → Asked
asked_of spec = record { levels = levels_of spec; method = spec.method; locate = spec.locate }

abbrev pub widths_of : ScanSpec → Widths
widths_of spec = record { finest = spec.finest; locate = spec.locate }

-- the curve is lawful and spans the band, and the base values are in the ranges of a study
pub record HasLevels (spec : ScanSpec) : Type 0 where
  pub curve : IsLawfulCurve spec.curve
  pub spans : Spans (curve_points spec.curve) (pos spec.from) (pos spec.to)
  pub kv : IsIn BUS_KV spec.kv
  pub mva : IsIn BASE_MVA spec.mva

-- in the ranges of a study: the levels, and a band of finest widths, so many at most, in which peaks are located in boxes no finer
pub record IsScanSpec (spec : ScanSpec) : Type 0 where
  pub levels : HasLevels spec
  pub from : IsIn BAND (pos spec.from)
  pub to : IsIn BAND (pos spec.to)
  pub band : spec.from < spec.to
  pub finest : IsIn FINEST (pos spec.finest)
  pub few : spec.to - spec.from ≤ MAX_WIDTHS * spec.finest
  pub wide : IsIn LOCATE (pos spec.locate)
  pub locate : spec.finest ≤ spec.locate

-- no extra susceptance
abbrev pub nothing : Ratio
nothing = over (pos 0) 1
