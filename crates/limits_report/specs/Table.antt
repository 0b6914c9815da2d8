-- What is computed of each order of a spectrum.
use Rattle.std.specs.Prelude.{ℕ, ◌+◌, ◌-◌, nat_eq, Bool, not, if◌then◌else◌, List, map, Option, None}
use Rattle.std.specs.List.{filter, list_any, range_with_len}
use Rattle.network_theory.specs.Network.{Network}
use Rattle.network_theory.specs.Reach.{is_live}
use Rattle.node_injection.specs.Injected.{ExactInjection}
use Rattle.distortion_bounds.specs.declared.squares.Squares.{Squares}
use Rattle.distortion_bounds.specs.Solver.{Solution, Solver, order_solution, solution_of, solving_order, voltage_squares, current_squares}
use Rattle.sequence_network.specs.Networks.{network_of}
use Rattle.phase_network.specs.Phases.{phase_network_of}
use Rattle.harmonic_injection.specs.Injections.{injections_of}
use Rattle.harmonic_injection.specs.Paths.{sequence_of_order}
use Rattle.spectrum_reader.specs.declared.fields.TheConstants.{MIN_ORDER, MAX_ORDER}
use Rattle.spectrum_reader.specs.declared.injection.Injection.{Injection}
use Rattle.study_model.specs.declared.records.Study.{Study}
use Rattle.study_model.specs.declared.words.StudyModel.{StudyModel}
use Rattle.study_model.specs.declared.words.StudyModel.TheVariants as study_model
use Rattle.limits_report.specs.declared.cell.Cell.{Cell}
use Rattle.limits_report.specs.declared.cell.Cell.TheVariants.{Dead, Live}
use Rattle.limits_report.specs.declared.cell.OrderCells.{OrderCells}
use Rattle.limits_report.specs.declared.site.Site.{Site}
use Rattle.limits_report.specs.declared.site.Subject.{Subject}
use Rattle.limits_report.specs.declared.site.Subject.TheVariants.{Voltage, Current}
use Rattle.limits_report.specs.Sites.{sites_of}

-- some row of the spectrum is of the order
abbrev pub occurs : List Injection → ℕ → Bool
occurs rows order = list_any (λ row. nat_eq row.order order) rows

-- the orders of a spectrum, ascending
abbrev pub orders_of : List Injection → List ℕ
orders_of rows = filter (occurs rows) (range_with_len MIN_ORDER (MAX_ORDER + 1 - MIN_ORDER))

-- the network that an order sees in a model: that of its sequence, or that of the three phases
abbrev pub network_in : StudyModel → Study → ℕ → Network
network_in study_model.Sequence study order = network_of study (sequence_of_order order)
network_in study_model.Phases study order = phase_network_of study

-- and in the study's own
unfoldable pub network_at : Study → ℕ → Network
network_at study order = network_in study.model study order

-- ---- the solution of an order
-- some injection is at a node that isn't live
abbrev pub is_unfed : Network → List ExactInjection → Bool
is_unfed network list = list_any (λ at. not (is_live network at.node)) list

-- what is found for injections of an order: nothing where one is at a node that isn't live
abbrev pub found_of : ℕ → Network → ℕ → List ExactInjection → Option Solution
found_of scale network order list = if is_unfed network list then None else solution_of order (order_solution scale network (solving_order network) order list)

-- the solver of a network after these injections of an order were solved
abbrev pub solver_of : ℕ → Network → ℕ → List ExactInjection → Solver
solver_of scale network order list = record { network = network; ordering = solving_order network; found = found_of scale network order list }

-- that of the network that an order sees, after the order's injections
unfoldable pub solver_at : Study → List Injection → ℕ → Solver
solver_at study rows order = solver_of study.scale (network_at study order) order (injections_of study rows order)

-- ---- cells
-- squares at a node, where it is live
abbrev pub cell_of : Bool → Option Squares → Cell
cell_of live squares = if live then Live squares else Dead

-- the squares of the voltage of a node, or of the current from there into the element of a point
abbrev pub squares_at : ℕ → Solver → Subject → ℕ → Option Squares
squares_at scale solver (Voltage number bus) node = voltage_squares solver.ordering solver.found node
squares_at scale solver (Current point) node = current_squares scale solver.network solver.ordering solver.found point.element node

-- the cell of a site
abbrev pub site_cell : ℕ → Solver → Site → Cell
site_cell scale solver site = cell_of (is_live solver.network site.node) (squares_at scale solver site.subject site.node)

-- the cells of an order
abbrev pub cells_with : ℕ → Solver → ℕ → List Site → OrderCells
cells_with scale solver order sites = record { order = order; cells = map (site_cell scale solver) sites }

unfoldable pub cells_of : Study → List Injection → ℕ → OrderCells
cells_of study rows order = cells_with study.scale (solver_at study rows order) order (sites_of study)

-- those of all orders
unfoldable pub table_of : Study → List Injection → List OrderCells
table_of study rows = map (cells_of study rows) (orders_of rows)
