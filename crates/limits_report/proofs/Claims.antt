-- The claims of a report on distortion.
use Rattle.std.proofs.Common.{◌≡◌, sym, subst, ℕ, ◌+◌, List, [], ◌∷◌, ◌++◌, map, length, refl, arith, pos}
use Rattle.std.proofs.lemmas.Int.{ints}
use Rattle.std.proofs.lemmas.Simd.{map-map}
use Rattle.std.specs.Prelude.{◌≤ℤ◌, ◌<ℤ◌, slice_get, Option, Some, None, IfSome}
use Rattle.std.specs.Option.{option_and_then}
use Rattle.std.specs.List.{AllByRecursion, flat_map}
use Rattle.exact_algebra.specs.Ratio.{Ratio}
use Rattle.exact_algebra.specs.Complex.{Complex}
use Rattle.network_theory.specs.State.{State}
use Rattle.ieee519_limits.specs.VoltageLimits.{voltage_limit}
use Rattle.ieee519_limits.specs.CurrentLimits.{figures_of, figure_of_order}
use Rattle.ieee519_limits.specs.Levels.{in_force}
use Rattle.ieee519_limits.specs.Verdicts.{verdict_of}
use Rattle.distortion_bounds.specs.declared.squares.Squares.{Squares}
use Rattle.distortion_bounds.specs.Distortion.{voltage_square, current_square, voltage_rho, current_rho}
use Rattle.ieee519_limits.specs.ExactVerdicts.{Bounds}
use Rattle.distortion_bounds.specs.Laws.{HoldsSizes, VoltageIsBounded, CurrentIsBounded, TotalVoltageIsBounded, TotalCurrentIsBounded}
use Rattle.distortion_bounds.specs.Percents.{bounds_of}
use Rattle.scan_report.specs.declared.rows.PhaseWord.{PhaseWord}
use Rattle.spectrum_reader.specs.LevelRows.{level_of}
use Rattle.spectrum_reader.specs.declared.injection.Injection.{Injection}
use Rattle.spectrum_reader.specs.declared.level.Level.{Level}
use Rattle.study_model.specs.Lawful.{IsLawful, IsLawfulPcc}
use Rattle.study_model.specs.Voltages.{kv_of}
use Rattle.study_model.specs.declared.records.Bus.{Bus}
use Rattle.study_model.specs.declared.records.Pcc.{Pcc}
use Rattle.study_model.specs.declared.records.Study.{Study}
use Rattle.element_parts.proofs.Values.{kv_positive}
use Rattle.limits_report.specs.declared.cell.Cell.{Cell}
use Rattle.limits_report.specs.declared.cell.Cell.TheVariants.{Dead, Live}
use Rattle.limits_report.specs.declared.cell.OrderCells.{OrderCells}
use Rattle.limits_report.specs.declared.site.Site.{Site}
use Rattle.limits_report.specs.declared.site.Subject.{Subject}
use Rattle.limits_report.specs.declared.site.Subject.TheVariants.{Voltage, Current}
use Rattle.limits_report.specs.Cells.{cell_at, column_of, all_orders}
use Rattle.limits_report.specs.Lines.{low_of, high_of, voltage_row, thd_row, current_row, tdd_row, row_of, total_row_of}
use Rattle.limits_report.specs.Sections.{rows_at, rows_from, rows_of, totals_from, section_of, points_from, body_rows}
use Rattle.limits_report.specs.Sites.{bus_sites, point_sites, sites_of}
use Rattle.limits_report.specs.Table.{orders_of, cells_of, table_of}
use Rattle.limits_report.specs.Truth.{IsTrueOrder}
use Rattle.limits_report.specs.Report.{limits_rows_of}
use Rattle.limits_report.specs.Claim.{both, live_orders, voltage_in, current_in, IsTrueAt, IsTrueOver, IsTrueRow, HoldsOfLimits}
use Rattle.limits_report.proofs.Everywhere.{joined}
use Rattle.limits_report.proofs.Judged.{at_bounds, at_none}
use Rattle.limits_report.proofs.Places.{IsRest, rest_first, rest_more, rest_left, rest_right, whole_rest, IsOf, IsSiteOf, sites_are}
use Rattle.limits_report.proofs.Seen.{HasSizes, IsTrueCell, point_current, value_of, site_true, one_at}
use Rattle.limits_report.proofs.Sums.{total_true}

-- what is known of bounds
pub record BoundsHold : Type 0 where
  pub voltage : VoltageIsBounded
  pub current : CurrentIsBounded
  pub total_voltage : TotalVoltageIsBounded
  pub total_current : TotalCurrentIsBounded

-- ---- one order
OneLaw : ℕ → ℕ → Ratio → (Complex → Ratio) → Type 0
OneLaw scale count rho square = (q : Squares) (z : Complex) → HoldsSizes scale q z → IfSome (bounds_of count rho scale q) (λ b. Bounds (Some b) (square z))

at_squares : (study : Study) (rows : List Injection) (order : ℕ) (value : State → Complex) (count : ℕ) (rho : Ratio) (square : Complex → Ratio) (squares : Option Squares) (limit : ℕ)
    → OneLaw study.scale count rho square → IfSome squares (HasSizes study rows order value)
    → let bounds = option_and_then (bounds_of count rho study.scale) squares in
    IsTrueAt study rows order (λ s. square (value s)) (both (low_of bounds) (high_of bounds)) limit (verdict_of bounds limit)
unfolding OneLaw
at_squares study rows order value count rho square None limit law h = at_none study rows order (λ s. square (value s)) limit
at_squares study rows order value count rho square (Some q) limit law h =
    at_bounds study rows order (λ s. square (value s)) (bounds_of count rho study.scale q) limit h.state h.only (law q (value h.state) h.held)

-- ---- the row of what is said at a node
a_voltage : (study : Study) (rows : List Injection) (levels : List Level) (order number : ℕ) (bus : Bus) (phase : PhaseWord) (node : ℕ) (squares : Option Squares) → BoundsHold
    → IsOf study (Voltage number bus) phase node → IfSome squares (HasSizes study rows order (λ s. s.voltage node)) → IsTrueRow study rows (voltage_row study levels order number bus phase squares)
unfolding voltage_row OneLaw
a_voltage study rows levels order number bus phase node squares hold is h =
    let bounds = option_and_then (bounds_of 3 voltage_rho study.scale) squares in
    let limit = in_force (voltage_limit bus.kv).each (level_of levels number order) in
    let there = at_squares study rows order (λ s. s.voltage node) 3 voltage_rho voltage_square squares limit (hold.voltage study.scale) h in
    record {
      number = number;
      bus = bus;
      at = is.0;
      named = refl;
      holds = subst (λ n. IsTrueAt study rows order (voltage_in n) (both (low_of bounds) (high_of bounds)) limit (verdict_of bounds limit)) is.1 there;
    }

-- what the laws on currents ask of a study and a point
record HasBase (study : Study) (point : Pcc) : Type 0 where
  kv : pos 0 <ℤ kv_of study.buses point.bus
  mva : pos 0 ≤ℤ study.mva
  il : pos 0 <ℤ point.il

base_of : (study : Study) (point : Pcc) → IsLawful study → IsLawfulPcc study point → HasBase study point
base_of study point lawful h =
    let kv = kv_positive study.buses point.bus lawful.buses h.bus in
    record { kv = omega (arith, ints, kv); mva = omega (arith, ints, lawful.mva.0); il = omega (arith, ints, h.il.0) }

a_current : (study : Study) (rows : List Injection) (order : ℕ) (point : Pcc) (phase : PhaseWord) (node : ℕ) (squares : Option Squares) → BoundsHold → IsLawful study
    → IsOf study (Current point) phase node → IfSome squares (HasSizes study rows order (point_current study point node order)) → IsTrueRow study rows (current_row study order point phase squares)
unfolding current_row OneLaw
a_current study rows order point phase node squares hold lawful is h =
    let base = base_of study point lawful is.1 in
    let rho = current_rho (kv_of study.buses point.bus) study.mva point.il in
    let square = current_square (kv_of study.buses point.bus) study.mva point.il in
    let bounds = option_and_then (bounds_of 1 rho study.scale) squares in
    let limit = figure_of_order (figures_of (kv_of study.buses point.bus) point.isc point.il) order in
    let there = at_squares study rows order (point_current study point node order) 1 rho square squares limit (hold.current (kv_of study.buses point.bus) study.mva point.il base.kv base.mva base.il study.scale) h in
    record {
      number = is.0.0;
      point = point;
      at = is.0.1;
      named = refl;
      holds = subst (λ n. IsTrueAt study rows order (current_in study point n order) (both (low_of bounds) (high_of bounds)) limit (verdict_of bounds limit)) is.2 there;
    }

a_row : (study : Study) (rows : List Injection) (levels : List Level) (order : ℕ) (subject : Subject) (phase : PhaseWord) (node : ℕ) (squares : Option Squares) → BoundsHold → IsLawful study
    → IsOf study subject phase node → IfSome squares (HasSizes study rows order (value_of study subject node order)) → IsTrueRow study rows (row_of study levels order subject phase squares)
a_row study rows levels order (Voltage number bus) phase node squares hold lawful is h = a_voltage study rows levels order number bus phase node squares hold is h
a_row study rows levels order (Current point) phase node squares hold lawful is h = a_current study rows order point phase node squares hold lawful is h

at_cell : (study : Study) (rows : List Injection) (levels : List Level) (order : ℕ) (site : Site) (cell : Cell) → BoundsHold → IsLawful study → IsSiteOf study site
    → IsTrueCell study rows site.node (value_of study site.subject site.node order) order cell → AllByRecursion (IsTrueRow study rows) (rows_at study levels order site cell)
at_cell study rows levels order site Dead hold lawful is h = tt
at_cell study rows levels order site (Live squares) hold lawful is h = (a_row study rows levels order site.subject site.phase site.node squares hold lawful is h.1, tt)

-- ---- rows of orders
of_order : (study : Study) (rows : List Injection) (levels : List Level) (order : ℕ) → BoundsHold → IsLawful study → IsTrueOrder study rows order → (number : ℕ) (sites : List Site) → IsRest (sites_of study) number sites
    → AllByRecursion (IsTrueRow study rows) (rows_from study levels (cells_of study rows order) number sites)
of_order study rows levels order hold lawful true_order number [] rest = tt
of_order study rows levels order hold lawful true_order number (site ∷ sites) rest =
    let at = rest_first (sites_of study) number site sites rest in
    let cell : Cell = cell_at (cells_of study rows order).cells number in
    let seen = site_true study rows order number site true_order at in
    let is = one_at (IsSiteOf study) (sites_of study) number site at (sites_are study lawful) in
    let same : (cells_of study rows order).order ≡ order = unfold cells_of in refl in
    joined (IsTrueRow study rows) (rows_at study levels (cells_of study rows order).order site cell) _
    (subst (λ o. AllByRecursion (IsTrueRow study rows) (rows_at study levels o site cell)) (sym same) (at_cell study rows levels order site cell hold lawful is seen))
    (of_order study rows levels order hold lawful true_order (number + 1) sites (rest_more (sites_of study) number site sites rest))

of_orders : (study : Study) (rows : List Injection) (levels : List Level) → BoundsHold → IsLawful study → (number : ℕ) (sites : List Site) → IsRest (sites_of study) number sites
    → (orders : List ℕ) → AllByRecursion (IsTrueOrder study rows) orders → AllByRecursion (IsTrueRow study rows) (rows_of study levels (map (cells_of study rows) orders) number sites)
of_orders study rows levels hold lawful number sites rest [] h = tt
of_orders study rows levels hold lawful number sites rest (order ∷ orders) h =
    joined (IsTrueRow study rows) (rows_from study levels (cells_of study rows order) number sites) _
    (of_order study rows levels order hold lawful h.0 number sites rest) (of_orders study rows levels hold lawful number sites rest orders h.1)

-- ---- rows of totals
cells_true : (study : Study) (rows : List Injection) (number : ℕ) (site : Site) → slice_get (sites_of study) number ≡ Some site → (orders : List ℕ) → AllByRecursion (IsTrueOrder study rows) orders
    → AllByRecursion (λ order. IsTrueCell study rows site.node (value_of study site.subject site.node order) order (cell_at (cells_of study rows order).cells number)) orders
cells_true study rows number site at [] h = tt
cells_true study rows number site at (order ∷ orders) h = (site_true study rows order number site h.0 at, cells_true study rows number site at orders h.1)

-- the cells of a site, over the orders
abbrev pub CellsTrue : Study → List Injection → Subject → ℕ → (ℕ → Cell) → Type 0
CellsTrue study rows subject node cell = AllByRecursion (λ order. IsTrueCell study rows node (value_of study subject node order) order (cell order)) (orders_of rows)

a_total : (study : Study) (rows : List Injection) (levels : List Level) (number : ℕ) (bus : Bus) (phase : PhaseWord) (node : ℕ) (cell : ℕ → Cell) → BoundsHold → IsOf study (Voltage number bus) phase node
    → CellsTrue study rows (Voltage number bus) node cell → IsTrueRow study rows (thd_row study levels number bus phase (all_orders (map cell (orders_of rows))))
unfolding thd_row
a_total study rows levels number bus phase node cell hold is h =
    let bounds = option_and_then (bounds_of 3 voltage_rho study.scale) (all_orders (map cell (orders_of rows))) in
    let limit = in_force (voltage_limit bus.kv).total (level_of levels number 0) in
    let there = total_true study rows node (λ order s. s.voltage node) 3 voltage_rho voltage_square limit (orders_of rows) cell (hold.total_voltage study.scale) h in
    record {
      number = number;
      bus = bus;
      at = is.0;
      named = refl;
      holds = subst (λ n. IsTrueOver study rows (live_orders study rows n) (λ order. voltage_in n) (both (low_of bounds) (high_of bounds)) limit (verdict_of bounds limit)) is.1 there;
    }

a_demand : (study : Study) (rows : List Injection) (point : Pcc) (phase : PhaseWord) (node : ℕ) (cell : ℕ → Cell) → BoundsHold → IsLawful study → IsOf study (Current point) phase node
    → CellsTrue study rows (Current point) node cell → IsTrueRow study rows (tdd_row study point phase (all_orders (map cell (orders_of rows))))
unfolding tdd_row
a_demand study rows point phase node cell hold lawful is h =
    let base = base_of study point lawful is.1 in
    let rho = current_rho (kv_of study.buses point.bus) study.mva point.il in
    let square = current_square (kv_of study.buses point.bus) study.mva point.il in
    let bounds = option_and_then (bounds_of 1 rho study.scale) (all_orders (map cell (orders_of rows))) in
    let limit = (figures_of (kv_of study.buses point.bus) point.isc point.il).total in
    let there = total_true study rows node (point_current study point node) 1 rho square limit (orders_of rows) cell
    (hold.total_current (kv_of study.buses point.bus) study.mva point.il base.kv base.mva base.il study.scale) h in
    record {
      number = is.0.0;
      point = point;
      at = is.0.1;
      named = refl;
      holds = subst (λ n. IsTrueOver study rows (live_orders study rows n) (current_in study point n) (both (low_of bounds) (high_of bounds)) limit (verdict_of bounds limit)) is.2 there;
    }

by_subject : (study : Study) (rows : List Injection) (levels : List Level) (subject : Subject) (phase : PhaseWord) (node : ℕ) (cell : ℕ → Cell) → BoundsHold → IsLawful study → IsOf study subject phase node
    → CellsTrue study rows subject node cell → IsTrueRow study rows (total_row_of study levels subject phase (all_orders (map cell (orders_of rows))))
by_subject study rows levels (Voltage number bus) phase node cell hold lawful is h = a_total study rows levels number bus phase node cell hold is h
by_subject study rows levels (Current point) phase node cell hold lawful is h = a_demand study rows point phase node cell hold lawful is h

of_totals : (study : Study) (rows : List Injection) (levels : List Level) → BoundsHold → IsLawful study → AllByRecursion (IsTrueOrder study rows) (orders_of rows) → (number : ℕ) (sites : List Site) → IsRest (sites_of study) number sites
    → AllByRecursion (IsTrueRow study rows) (totals_from study levels (map (cells_of study rows) (orders_of rows)) number sites)
of_totals study rows levels hold lawful h number [] rest = tt
of_totals study rows levels hold lawful h number (site ∷ sites) rest =
    let at = rest_first (sites_of study) number site sites rest in
    let is = one_at (IsSiteOf study) (sites_of study) number site at (sites_are study lawful) in
    let cell : ℕ → Cell = λ order. cell_at (cells_of study rows order).cells number in
    let column : map cell (orders_of rows) ≡ column_of number (map (cells_of study rows) (orders_of rows)) = sym (map-map (λ (c : OrderCells). cell_at c.cells number) (cells_of study rows) (orders_of rows)) in
    let one = by_subject study rows levels site.subject site.phase site.node cell hold lawful is (cells_true study rows number site at (orders_of rows) h) in (
      subst (λ cells. IsTrueRow study rows (total_row_of study levels site.subject site.phase (all_orders cells))) column one,
      of_totals study rows levels hold lawful h (number + 1) sites (rest_more (sites_of study) number site sites rest),
    )

-- ---- sections
of_section : (study : Study) (rows : List Injection) (levels : List Level) → BoundsHold → IsLawful study → AllByRecursion (IsTrueOrder study rows) (orders_of rows) → (number : ℕ) (sites : List Site) → IsRest (sites_of study) number sites
    → AllByRecursion (IsTrueRow study rows) (section_of study levels (map (cells_of study rows) (orders_of rows)) number sites)
of_section study rows levels hold lawful h number sites rest =
    let table = map (cells_of study rows) (orders_of rows) in
    joined (IsTrueRow study rows) (rows_of study levels table number sites) (totals_from study levels table number sites)
    (of_orders study rows levels hold lawful number sites rest (orders_of rows) h) (of_totals study rows levels hold lawful h number sites rest)

of_points : (study : Study) (rows : List Injection) (levels : List Level) → BoundsHold → IsLawful study → AllByRecursion (IsTrueOrder study rows) (orders_of rows) → (number : ℕ) (points : List Pcc)
    → IsRest (sites_of study) number (flat_map (point_sites study.model) points) → AllByRecursion (IsTrueRow study rows) (points_from study levels (map (cells_of study rows) (orders_of rows)) number points)
of_points study rows levels hold lawful h number [] rest = tt
of_points study rows levels hold lawful h number (point ∷ points) rest =
    let table = map (cells_of study rows) (orders_of rows) in
    let sites = point_sites study.model point in
    let more = flat_map (point_sites study.model) points in
    joined (IsTrueRow study rows) (section_of study levels table number sites) (points_from study levels table (number + length sites) points)
    (of_section study rows levels hold lawful h number sites (rest_left (sites_of study) number sites more rest))
    (of_points study rows levels hold lawful h (number + length sites) points (rest_right (sites_of study) number sites more rest))

all_rest : (study : Study) → IsRest (sites_of study) 0 (bus_sites study.model 0 study.buses ++ flat_map (point_sites study.model) study.points)
unfolding sites_of
all_rest study = whole_rest (sites_of study)

of_body : (study : Study) (rows : List Injection) (levels : List Level) → BoundsHold → IsLawful study → AllByRecursion (IsTrueOrder study rows) (orders_of rows)
    → AllByRecursion (IsTrueRow study rows) (body_rows study levels (map (cells_of study rows) (orders_of rows)))
of_body study rows levels hold lawful h =
    let table = map (cells_of study rows) (orders_of rows) in
    let sites = bus_sites study.model 0 study.buses in
    let more = flat_map (point_sites study.model) study.points in
    let second : IsRest (sites_of study) (length sites) more = subst (λ n. IsRest (sites_of study) n more) (omega arith) (rest_right (sites_of study) 0 sites more (all_rest study)) in
    joined (IsTrueRow study rows) (section_of study levels table 0 sites) (points_from study levels table (length sites) study.points)
    (of_section study rows levels hold lawful h 0 sites (rest_left (sites_of study) 0 sites more (all_rest study)))
    (of_points study rows levels hold lawful h (length sites) study.points second)

-- What the report claims holds, where each of its orders is true.
pub claimed : (study : Study) (rows : List Injection) (levels : List Level) → BoundsHold → IsLawful study → AllByRecursion (IsTrueOrder study rows) (orders_of rows) → HoldsOfLimits study rows levels
unfolding limits_rows_of table_of
claimed study rows levels hold lawful h =
    joined (IsTrueRow study rows) (body_rows study levels (map (cells_of study rows) (orders_of rows))) _ (of_body study rows levels hold lawful h) (tt, (tt, tt))
