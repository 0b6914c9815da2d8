-- What is computed of one order of a spectrum at a node, and what all orders are together.
use Rattle.std.specs.Prelude.{ℕ, List, [], ◌∷◌, Option, Some, None, slice_get, unwrap_or, option_map, map}
use Rattle.std.specs.Option.{option_and_then}
use Rattle.distortion_bounds.specs.Totals.{total_of}
use Rattle.distortion_bounds.specs.declared.squares.Squares.{Squares}
use Rattle.limits_report.specs.declared.cell.Cell.{Cell}
use Rattle.limits_report.specs.declared.cell.Cell.TheVariants.{Dead, Live}
use Rattle.limits_report.specs.declared.cell.OrderCells.{OrderCells}

-- the cell of a number, from 0
abbrev pub cell_at : List Cell → ℕ → Cell
cell_at cells number = unwrap_or (slice_get cells number) Dead

-- the cells of a number, over the orders
abbrev pub column_of : ℕ → List OrderCells → List Cell
column_of number table = map (λ cells. cell_at cells.cells number) table

-- the squares of the cells that are live, where each of these has some
abbrev pub live_squares : List Cell → Option (List Squares)
live_squares [] = Some []
live_squares (Dead ∷ cells) = live_squares cells
live_squares (Live None ∷ cells) = None
live_squares (Live (Some squares) ∷ cells) = option_map (λ more. squares ∷ more) (live_squares cells)

-- their sums, of no cells 0; none where one is absent or a sum is out of range
unfoldable pub all_orders : List Cell → Option Squares
all_orders cells = option_and_then total_of (live_squares cells)
