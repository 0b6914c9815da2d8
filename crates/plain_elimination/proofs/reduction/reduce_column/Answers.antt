use Rattle.std.proofs.Common.{◌≡◌, ◌+◌, ◌-◌, ◌*◌, length, sym, ap, ◌∙◌, arith}
use Rattle.complex_interval.specs.Rect.{rectangle_of}
use Rattle.plain_elimination.specs.Rectangles.{rectangles}
use Rattle.plain_elimination.proofs.Left.{cells_behind, first_size, column_done}
use Rattle.plain_elimination.proofs.reduction.reduce_column.Goals as goal

pub reduce_by-requires-clause-rows : goal.reduce_by-requires-clause-rows
reduce_by-requires-clause-rows g c =
    let size = c.args.size in
    let parts = c.split_at_mut-done.ensures in
    let width : c.args.column + length c.cells_from-first.result.now ≡ size = first_size c.args.column size c.args.cells.now _ _ c.requires.column_in c.requires.square parts.front c.cells_from-first.ensures in
    let fits = cells_behind c.args.column size c.requires.column_in in
    let rest : length c.split_at_mut-done.result.1.now ≡ (size - 1 - c.args.column) * size = omega (arith, parts.back_len, c.requires.square) in
    rest ∙ ap (λ n. (size - 1 - c.args.column) * n) (sym width)

pub returns : goal.returns
returns g c =
    let parts = c.split_at_mut-done.ensures in
    let width : c.args.column + length c.cells_from-first.result.now ≡ c.args.size = first_size c.args.column c.args.size c.args.cells.now _ _ c.requires.column_in c.requires.square parts.front c.cells_from-first.ensures in
    column_done (rectangles g.E.Enclosure.SCALE) (rectangle_of g.E.Enclosure.ends) c.reduce_by.result c.args.column c.args.size _ c.args.cells.now _ _ c.reduce_by.new.later _ c.requires.column_in c.requires.square width parts.front parts.back c.cells_from-first.ensures c.reduce_by.ensures
