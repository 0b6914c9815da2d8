-- The rows of a report on distortion, each from its squares and its limit. The voltage of a bus and its levels are those of each of its phases.
use Rattle.std.specs.Prelude.{ℕ, List, Option, option_map}
use Rattle.std.specs.Option.{option_and_then}
use Rattle.ieee519_limits.specs.declared.bounds.PercentBounds.{PercentBounds}
use Rattle.ieee519_limits.specs.VoltageLimits.{voltage_limit}
use Rattle.ieee519_limits.specs.CurrentLimits.{figures_of, figure_of_order}
use Rattle.ieee519_limits.specs.Levels.{in_force}
use Rattle.ieee519_limits.specs.Verdicts.{verdict_of}
use Rattle.distortion_bounds.specs.Distortion.{voltage_rho, current_rho}
use Rattle.distortion_bounds.specs.Percents.{bounds_of}
use Rattle.distortion_bounds.specs.declared.squares.Squares.{Squares}
use Rattle.scan_report.specs.declared.rows.Row.{Row}
use Rattle.scan_report.specs.declared.rows.Row.TheVariants as row
use Rattle.scan_report.specs.declared.rows.PhaseWord.{PhaseWord}
use Rattle.spectrum_reader.specs.LevelRows.{level_of}
use Rattle.spectrum_reader.specs.declared.level.Level.{Level}
use Rattle.study_model.specs.Voltages.{kv_of}
use Rattle.study_model.specs.declared.records.Bus.{Bus}
use Rattle.study_model.specs.declared.records.Pcc.{Pcc}
use Rattle.study_model.specs.declared.records.Study.{Study}
use Rattle.limits_report.specs.declared.site.Subject.{Subject}
use Rattle.limits_report.specs.declared.site.Subject.TheVariants.{Voltage, Current}

-- the bounds of voltages, in percent of the nominal phase voltage
abbrev pub voltage_bounds : Study → Option Squares → Option PercentBounds
voltage_bounds study squares = option_and_then (bounds_of 3 voltage_rho study.scale) squares

-- the bounds of currents, in percent of the demand current of a point
abbrev pub current_bounds : Study → Pcc → Option Squares → Option PercentBounds
current_bounds study point squares = option_and_then (bounds_of 1 (current_rho (kv_of study.buses point.bus) study.mva point.il) study.scale) squares

abbrev pub low_of : Option PercentBounds → Option ℕ
low_of bounds = option_map (λ b. b.lo) bounds

abbrev pub high_of : Option PercentBounds → Option ℕ
high_of bounds = option_map (λ b. b.hi) bounds

-- the row of a voltage, by the planning level of the bus at the order or the standard's limit
unfoldable pub voltage_row : Study → List Level → ℕ → ℕ → Bus → PhaseWord → Option Squares → Row
voltage_row study levels order number bus phase squares =
    let bounds = voltage_bounds study squares in
    let limit = in_force (voltage_limit bus.kv).each (level_of levels number order) in
    row.Voltage bus.name phase order (low_of bounds) (high_of bounds) limit (verdict_of bounds limit)

-- the row of the total distortion of a voltage, by the planning level of the bus for it or the standard's limit
unfoldable pub thd_row : Study → List Level → ℕ → Bus → PhaseWord → Option Squares → Row
thd_row study levels number bus phase squares =
    let bounds = voltage_bounds study squares in
    let limit = in_force (voltage_limit bus.kv).total (level_of levels number 0) in
    row.Thd bus.name phase (low_of bounds) (high_of bounds) limit (verdict_of bounds limit)

-- the row of a current
unfoldable pub current_row : Study → ℕ → Pcc → PhaseWord → Option Squares → Row
current_row study order point phase squares =
    let bounds = current_bounds study point squares in
    let limit = figure_of_order (figures_of (kv_of study.buses point.bus) point.isc point.il) order in
    row.Current point.name phase order (low_of bounds) (high_of bounds) limit (verdict_of bounds limit)

-- the row of the total demand distortion of a current
unfoldable pub tdd_row : Study → Pcc → PhaseWord → Option Squares → Row
tdd_row study point phase squares =
    let bounds = current_bounds study point squares in
    let limit = (figures_of (kv_of study.buses point.bus) point.isc point.il).total in
    row.Tdd point.name phase (low_of bounds) (high_of bounds) limit (verdict_of bounds limit)

-- the row of what is said at a node, at one order
abbrev pub row_of : Study → List Level → ℕ → Subject → PhaseWord → Option Squares → Row
row_of study levels order (Voltage number bus) phase squares = voltage_row study levels order number bus phase squares
row_of study levels order (Current point) phase squares = current_row study order point phase squares

-- and over all orders
abbrev pub total_row_of : Study → List Level → Subject → PhaseWord → Option Squares → Row
total_row_of study levels (Voltage number bus) phase squares = thd_row study levels number bus phase squares
total_row_of study levels (Current point) phase squares = tdd_row study point phase squares
