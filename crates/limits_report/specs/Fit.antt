-- What cells have to meet: their squares are in order and at most 2^125.
use Rattle.std.specs.Prelude.{◌≤◌, IfSome}
use Rattle.std.specs.List.{AllByRecursion}
use Rattle.distortion_bounds.specs.Squares.{AreSquares}
use Rattle.limits_report.specs.declared.cell.Cell.{Cell}
use Rattle.limits_report.specs.declared.cell.Cell.TheVariants.{Dead, Live}
use Rattle.limits_report.specs.declared.cell.OrderCells.{OrderCells}

-- a cell
abbrev pub IsFitCell : Cell → Type 0
IsFitCell Dead = Unit {0}
IsFitCell (Live squares) = IfSome squares AreSquares

-- the cells of an order from 2 to 50
pub record AreFitCells (cells : OrderCells) : Type 0 where
  pub low : 2 ≤ cells.order
  pub high : cells.order ≤ 50
  pub each : AllByRecursion IsFitCell cells.cells
