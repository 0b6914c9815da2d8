-- The rows of a report on distortion, from what is computed of each order: the cells of its sites.
use Rattle.std.specs.Prelude.{ℕ, ◌+◌, List, [], ◌∷◌, ◌++◌, length}
use Rattle.std.specs.List.{flat_map}
use Rattle.scan_report.specs.declared.rows.Row.{Row}
use Rattle.spectrum_reader.specs.declared.level.Level.{Level}
use Rattle.study_model.specs.declared.records.Pcc.{Pcc}
use Rattle.study_model.specs.declared.records.Study.{Study}
use Rattle.limits_report.specs.declared.cell.Cell.{Cell}
use Rattle.limits_report.specs.declared.cell.Cell.TheVariants.{Dead, Live}
use Rattle.limits_report.specs.declared.cell.OrderCells.{OrderCells}
use Rattle.limits_report.specs.declared.site.Site.{Site}
use Rattle.limits_report.specs.Cells.{cell_at, column_of, all_orders}
use Rattle.limits_report.specs.Lines.{row_of, total_row_of}
use Rattle.limits_report.specs.Sites.{bus_sites, point_sites}

-- a row at a node that is live in the network of the order
abbrev pub rows_at : Study → List Level → ℕ → Site → Cell → List Row
rows_at study levels order site Dead = []
rows_at study levels order site (Live squares) = row_of study levels order site.subject site.phase squares ∷ []

-- those of an order, at sites whose cells are numbered from here
abbrev pub rows_from : Study → List Level → OrderCells → ℕ → List Site → List Row
rows_from study levels cells number [] = []
rows_from study levels cells number (site ∷ sites) = rows_at study levels cells.order site (cell_at cells.cells number) ++ rows_from study levels cells (number + 1) sites

-- those of all orders
abbrev pub rows_of : Study → List Level → List OrderCells → ℕ → List Site → List Row
rows_of study levels table number sites = flat_map (λ cells. rows_from study levels cells number sites) table

-- the row of what all orders are together at a site
abbrev pub total_row : Study → List Level → List OrderCells → ℕ → Site → Row
total_row study levels table number site = total_row_of study levels site.subject site.phase (all_orders (column_of number table))

-- those of sites whose cells are numbered from here
abbrev pub totals_from : Study → List Level → List OrderCells → ℕ → List Site → List Row
totals_from study levels table number [] = []
totals_from study levels table number (site ∷ sites) = total_row study levels table number site ∷ totals_from study levels table (number + 1) sites

-- rows by order, then by site; then those of all orders, by site
abbrev pub section_of : Study → List Level → List OrderCells → ℕ → List Site → List Row
section_of study levels table number sites = rows_of study levels table number sites ++ totals_from study levels table number sites

-- a section for each point of common coupling
abbrev pub points_from : Study → List Level → List OrderCells → ℕ → List Pcc → List Row
points_from study levels table number [] = []
points_from study levels table number (point ∷ points) =
    section_of study levels table number (point_sites study.model point) ++ points_from study levels table (number + length (point_sites study.model point)) points

-- the rows of a report before its summary: a section of the voltages of all buses, then those of the points
abbrev pub body_rows : Study → List Level → List OrderCells → List Row
body_rows study levels table =
    section_of study levels table 0 (bus_sites study.model 0 study.buses) ++ points_from study levels table (length (bus_sites study.model 0 study.buses)) study.points
