-- A report on distortion has few rows.
use Rattle.std.proofs.Common.{◌≡◌, ap, ℕ, zero, suc, ◌+◌, ◌*◌, ◌^◌, ◌≤◌, ◌<◌, Bool, true, false, List, [], ◌∷◌, length, length-append, refl, arith}
use Rattle.std.specs.Prelude.{if◌then◌else◌}
use Rattle.std.proofs.lemmas.List.{length-map}
use Rattle.std.specs.List.{flat_map, filter, range_with_len}
use Rattle.spectrum_reader.specs.declared.injection.Injection.{Injection}
use Rattle.spectrum_reader.specs.declared.level.Level.{Level}
use Rattle.study_model.specs.Lawful.{IsLawful}
use Rattle.study_model.specs.declared.records.Pcc.{Pcc}
use Rattle.study_model.specs.declared.records.Study.{Study}
use Rattle.scan_report.specs.declared.rows.Row.{Row}
use Rattle.limits_report.specs.declared.cell.Cell.{Cell}
use Rattle.limits_report.specs.declared.cell.Cell.TheVariants.{Dead, Live}
use Rattle.limits_report.specs.declared.cell.OrderCells.{OrderCells}
use Rattle.limits_report.specs.declared.site.Site.{Site}
use Rattle.limits_report.specs.declared.site.Subject.TheVariants.{Current}
use Rattle.limits_report.specs.Cells.{cell_at}
use Rattle.limits_report.specs.Sections.{rows_at, rows_from, rows_of, totals_from, section_of, points_from, body_rows}
use Rattle.limits_report.specs.Sites.{bus_sites, point_sites}
use Rattle.limits_report.specs.Table.{occurs, orders_of, cells_of, table_of}
use Rattle.limits_report.proofs.Places.{few_at, few_sites}

flat_few : {X : Type 0} (f : X → List Row) (m : ℕ) → ((x : X) → length (f x) ≤ m) → (xs : List X) → length (flat_map f xs) ≤ length xs * m
flat_few f m h [] = omega arith
flat_few f m h (x ∷ xs) =
    let more = flat_few f m h xs in
    let one = h x in
    omega (arith, length-append (f x) (flat_map f xs))

at_cell : (study : Study) (levels : List Level) (order : ℕ) (site : Site) (cell : Cell) → length (rows_at study levels order site cell) ≤ 1
at_cell study levels order site Dead = omega arith
at_cell study levels order site (Live squares) = omega arith

of_order : (study : Study) (levels : List Level) (cells : OrderCells) (number : ℕ) (sites : List Site) → length (rows_from study levels cells number sites) ≤ length sites
of_order study levels cells number [] = omega arith
of_order study levels cells number (site ∷ sites) =
    let one = at_cell study levels cells.order site (cell_at cells.cells number) in
    let more = of_order study levels cells (number + 1) sites in
    omega (arith, length-append (rows_at study levels cells.order site (cell_at cells.cells number)) (rows_from study levels cells (number + 1) sites))

of_totals : (study : Study) (levels : List Level) (table : List OrderCells) (number : ℕ) (sites : List Site) → length (totals_from study levels table number sites) ≡ length sites
of_totals study levels table number [] = refl
of_totals study levels table number (site ∷ sites) = let more = of_totals study levels table (number + 1) sites in omega arith

-- at most 600 rows of each of 49 orders, and as many totals
of_buses : (study : Study) (levels : List Level) (table : List OrderCells) (sites : List Site) → length table ≤ 49 → length sites ≤ 600 → length (section_of study levels table 0 sites) ≤ 30000
of_buses study levels table sites few all =
    let rows = flat_few (λ cells. rows_from study levels cells 0 sites) 600 (λ cells. omega (arith, of_order study levels cells 0 sites, all)) table in
    omega (arith, few, all, rows, of_totals study levels table 0 sites, length-append (rows_of study levels table 0 sites) (totals_from study levels table 0 sites))

of_point : (study : Study) (levels : List Level) (table : List OrderCells) (number : ℕ) (sites : List Site) → length table ≤ 49 → length sites ≤ 3 → length (section_of study levels table number sites) ≤ 150
of_point study levels table number sites few all =
    let rows = flat_few (λ cells. rows_from study levels cells number sites) 3 (λ cells. omega (arith, of_order study levels cells number sites, all)) table in
    omega (arith, few, all, rows, of_totals study levels table number sites, length-append (rows_of study levels table number sites) (totals_from study levels table number sites))

of_points : (study : Study) (levels : List Level) (table : List OrderCells) (number : ℕ) (points : List Pcc) → length table ≤ 49 → length (points_from study levels table number points) ≤ length points * 150
of_points study levels table number [] few = omega arith
of_points study levels table number (point ∷ points) few =
    let sites = point_sites study.model point in
    let one = of_point study levels table number sites few (few_at study.model point.bus (Current point)) in
    let more = of_points study levels table (number + length sites) points few in
    omega (arith, one, more, length-append (section_of study levels table number sites) (points_from study levels table (number + length sites) points))

taken : (p : ℕ → Bool) (xs : List ℕ) → length (filter p xs) ≤ length xs
taken p [] = omega arith
taken p (x ∷ xs) =
    let more = taken p xs in
    elim (p x) as (λ b. length (if b then x ∷ filter p xs else filter p xs) ≤ suc (length xs)) [ true ↦ omega arith | false ↦ omega arith ]

range_len : (a n : ℕ) → length (range_with_len a n) ≡ n
range_len a zero = refl
range_len a (suc n) = ap suc (range_len (a + 1) n)

few_orders : (study : Study) (rows : List Injection) → length (table_of study rows) ≤ 49
unfolding table_of
few_orders study rows = omega (arith, length-map (orders_of rows) (cells_of study rows), taken (occurs rows) (range_with_len 2 49), range_len 2 49)

pub few_rows : (study : Study) (rows : List Injection) (levels : List Level) → IsLawful study → length (body_rows study levels (table_of study rows)) < 2 ^ 32
few_rows study rows levels h =
    let table = table_of study rows in
    let few : length table ≤ 49 = few_orders study rows in
    let points : length study.points ≤ 32 = h.points_count in
    let sites = bus_sites study.model 0 study.buses in
    let first = of_buses study levels table sites few (few_sites study h) in
    let second = of_points study levels table (length sites) study.points few in
    omega (arith, points, first, second, length-append (section_of study levels table 0 sites) (points_from study levels table (length sites) study.points))
