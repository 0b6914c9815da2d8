-- Each row of a report on distortion has a text.
use Rattle.std.proofs.Common.{ℕ, ◌+◌, List, [], ◌∷◌, length}
use Rattle.std.specs.Prelude.{Option}
use Rattle.std.specs.List.{AllByRecursion}
use Rattle.distortion_bounds.specs.declared.squares.Squares.{Squares}
use Rattle.scan_report.specs.declared.rows.PhaseWord.{PhaseWord}
use Rattle.scan_report.specs.declared.rows.Row.{Row}
use Rattle.scan_report.specs.Rows.{fields_of, HaveText}
use Rattle.spectrum_reader.specs.declared.injection.Injection.{Injection}
use Rattle.spectrum_reader.specs.declared.level.Level.{Level}
use Rattle.study_model.specs.declared.records.Bus.{Bus}
use Rattle.study_model.specs.declared.records.Pcc.{Pcc}
use Rattle.study_model.specs.declared.records.Study.{Study}
use Rattle.limits_report.specs.declared.cell.Cell.{Cell}
use Rattle.limits_report.specs.declared.cell.Cell.TheVariants.{Dead, Live}
use Rattle.limits_report.specs.declared.cell.OrderCells.{OrderCells}
use Rattle.limits_report.specs.declared.site.Site.{Site}
use Rattle.limits_report.specs.declared.site.Subject.{Subject}
use Rattle.limits_report.specs.declared.site.Subject.TheVariants.{Voltage, Current}
use Rattle.limits_report.specs.Cells.{cell_at, all_orders, column_of}
use Rattle.limits_report.specs.Lines.{voltage_row, thd_row, current_row, tdd_row, row_of, total_row_of}
use Rattle.limits_report.specs.Sections.{rows_at, rows_from, rows_of, totals_from, section_of, points_from, body_rows}
use Rattle.limits_report.specs.Sites.{bus_sites, point_sites}
use Rattle.limits_report.specs.Table.{table_of}
use Rattle.limits_report.specs.Report.{limits_rows_of}
use Rattle.limits_report.proofs.Everywhere.{joined, over_flat}

abbrev pub Has : Row → Type 0
Has r = HaveText (fields_of r)

a_voltage : (study : Study) (levels : List Level) (order number : ℕ) (bus : Bus) (phase : PhaseWord) (squares : Option Squares) → Has (voltage_row study levels order number bus phase squares)
unfolding voltage_row
a_voltage study levels order number bus phase squares = (tt, (tt, (tt, (tt, (tt, (tt, (tt, tt)))))))

a_total : (study : Study) (levels : List Level) (number : ℕ) (bus : Bus) (phase : PhaseWord) (squares : Option Squares) → Has (thd_row study levels number bus phase squares)
unfolding thd_row
a_total study levels number bus phase squares = (tt, (tt, (tt, (tt, (tt, (tt, tt))))))

a_current : (study : Study) (order : ℕ) (point : Pcc) (phase : PhaseWord) (squares : Option Squares) → Has (current_row study order point phase squares)
unfolding current_row
a_current study order point phase squares = (tt, (tt, (tt, (tt, (tt, (tt, (tt, tt)))))))

a_demand : (study : Study) (point : Pcc) (phase : PhaseWord) (squares : Option Squares) → Has (tdd_row study point phase squares)
unfolding tdd_row
a_demand study point phase squares = (tt, (tt, (tt, (tt, (tt, (tt, tt))))))

of_subject : (study : Study) (levels : List Level) (order : ℕ) (subject : Subject) (phase : PhaseWord) (squares : Option Squares) → Has (row_of study levels order subject phase squares)
of_subject study levels order (Voltage number bus) phase squares = a_voltage study levels order number bus phase squares
of_subject study levels order (Current point) phase squares = a_current study order point phase squares

of_total : (study : Study) (levels : List Level) (subject : Subject) (phase : PhaseWord) (squares : Option Squares) → Has (total_row_of study levels subject phase squares)
of_total study levels (Voltage number bus) phase squares = a_total study levels number bus phase squares
of_total study levels (Current point) phase squares = a_demand study point phase squares

at_cell : (study : Study) (levels : List Level) (order : ℕ) (site : Site) (cell : Cell) → AllByRecursion Has (rows_at study levels order site cell)
at_cell study levels order site Dead = tt
at_cell study levels order site (Live squares) = (of_subject study levels order site.subject site.phase squares, tt)

of_order : (study : Study) (levels : List Level) (cells : OrderCells) (number : ℕ) (sites : List Site) → AllByRecursion Has (rows_from study levels cells number sites)
of_order study levels cells number [] = tt
of_order study levels cells number (site ∷ sites) =
    joined Has (rows_at study levels cells.order site (cell_at cells.cells number)) (rows_from study levels cells (number + 1) sites)
    (at_cell study levels cells.order site (cell_at cells.cells number)) (of_order study levels cells (number + 1) sites)

of_totals : (study : Study) (levels : List Level) (table : List OrderCells) (number : ℕ) (sites : List Site) → AllByRecursion Has (totals_from study levels table number sites)
of_totals study levels table number [] = tt
of_totals study levels table number (site ∷ sites) = (of_total study levels site.subject site.phase (all_orders (column_of number table)), of_totals study levels table (number + 1) sites)

of_section : (study : Study) (levels : List Level) (table : List OrderCells) (number : ℕ) (sites : List Site) → AllByRecursion Has (section_of study levels table number sites)
of_section study levels table number sites =
    joined Has (rows_of study levels table number sites) (totals_from study levels table number sites)
    (over_flat Has (λ cells. rows_from study levels cells number sites) table (λ cells. of_order study levels cells number sites)) (of_totals study levels table number sites)

of_points : (study : Study) (levels : List Level) (table : List OrderCells) (number : ℕ) (points : List Pcc) → AllByRecursion Has (points_from study levels table number points)
of_points study levels table number [] = tt
of_points study levels table number (point ∷ points) =
    joined Has (section_of study levels table number (point_sites study.model point)) (points_from study levels table (number + length (point_sites study.model point)) points)
    (of_section study levels table number (point_sites study.model point)) (of_points study levels table (number + length (point_sites study.model point)) points)

of_body : (study : Study) (levels : List Level) (table : List OrderCells) → AllByRecursion Has (body_rows study levels table)
of_body study levels table =
    let sites = bus_sites study.model 0 study.buses in
    joined Has (section_of study levels table 0 sites) (points_from study levels table (length sites) study.points)
    (of_section study levels table 0 sites) (of_points study levels table (length sites) study.points)

pub have_text : (study : Study) (rows : List Injection) (levels : List Level) → AllByRecursion (λ row. HaveText (fields_of row)) (limits_rows_of study rows levels)
unfolding limits_rows_of
have_text study rows levels =
    joined Has (body_rows study levels (table_of study rows)) _ (of_body study levels (table_of study rows)) ((tt, (tt, (tt, tt))), ((tt, tt), tt))
