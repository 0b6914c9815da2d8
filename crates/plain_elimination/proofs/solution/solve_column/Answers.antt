use Rattle.std.proofs.Common.{◌≡◌, ◌+◌, ◌-◌, ◌*◌, length, sym, ap₂, ◌∙◌, arith}
use Rattle.complex_interval.specs.Rect.{rectangle_of}
use Rattle.plain_elimination.specs.Rectangles.{rectangles}
use Rattle.plain_elimination.proofs.Left.{cells_behind, first_size}
use Rattle.plain_elimination.proofs.Systems.{lines_done}
use Rattle.plain_elimination.proofs.solution.solve_column.Goals as goal

pub solve_by-requires-clause-rows : goal.solve_by-requires-clause-rows
solve_by-requires-clause-rows g c =
    let size = c.args.size in
    let parts = c.split_at_mut-done.ensures in
    let width : c.args.column + length c.cells_from-first.result.now ≡ size = first_size c.args.column size c.args.cells.now _ _ c.requires.column_in c.requires.square parts.front c.cells_from-first.ensures in
    let fits = cells_behind c.args.column size c.requires.column_in in
    let rest : length c.split_at_mut-done.result.1.now ≡ (size - 1 - c.args.column) * size = omega (arith, parts.back_len, c.requires.square) in
    let sides : size - 1 - c.args.column ≡ length c.split_at_mut-later_right.result.1.now = omega (arith, c.split_at_mut-later_right.ensures.back_len, c.requires.sides) in
    rest ∙ ap₂ (λ n w. n * w) sides (sym width)

pub returns-clause-step : goal.returns-clause-step
returns-clause-step g c =
    let parts = c.split_at_mut-done.ensures in
    let sides = c.split_at_mut-later_right.ensures in
    let width : c.args.column + length c.cells_from-first.result.now ≡ c.args.size = first_size c.args.column c.args.size c.args.cells.now _ _ c.requires.column_in c.requires.square parts.front c.cells_from-first.ensures in
    lines_done (rectangles g.E.Enclosure.SCALE) (rectangle_of g.E.Enclosure.ends) c.solve_by.result c.args.column c.args.size _ c.args.cells.now _ _ c.solve_by.new.later _ c.args.right.now _ _ c.solve_by.new.right c.index-right-column.result
    c.requires.column_in c.requires.square width c.requires.sides c.solve_by.auto.right c.index-right-column.is parts.front parts.back c.cells_from-first.ensures sides.front sides.back c.solve_by.ensures
