use Rattle.std.proofs.Common.{◌≡◌, ◌+◌, ◌*◌, Some, None, take, drop, map, sym, ap, ◌∙◌}
use Rattle.std.proofs.lemmas.List.{length-map, take-map}
use Rattle.std.proofs.lemmas.Result.{err_from_is_err_and}
use Rattle.complex_interval.specs.Rect.{rectangle_of}
use Rattle.plain_elimination.specs.Matrix.{nought_rectangle}
use Rattle.plain_elimination.specs.Rectangles.{rectangles}
use Rattle.sparse_rows.proofs.SideSteps.{step_err, step_done}
use Rattle.sparse_rows.proofs.solution.solve_column.Goals as goal

pub returns-in_err-reduce_column-clause-step : goal.returns-in_err-reduce_column-clause-step
returns-in_err-reduce_column-clause-step g c =
    let rectangle = rectangle_of g.E.Enclosure.ends in
    let cells = c.args.cells.now in
    let right = c.args.right.now in
    let failed = step_err (rectangles g.E.Enclosure.SCALE) nought_rectangle c.args.size c.args.column (map rectangle cells) (map rectangle right) c.in_err-reduce_column.field-0.0 c.requires.column_in
    (length-map cells rectangle ∙ c.requires.square) (length-map right rectangle ∙ c.requires.sides) c.in_err-reduce_column.ensures.stated in
    let p = err_from_is_err_and c.from_residual.result c.from_residual.ensures.1 in
    rw (p.1, p.2) failed

pub returns-in-Some-clause-step : goal.returns-in-Some-clause-step
returns-in-Some-clause-step g c =
    let rectangle = rectangle_of g.E.Enclosure.ends in
    let size = c.args.size in
    let k = c.args.column in
    let cells = c.args.cells.now in
    let new = c.reduce_column.new.cells in
    let right = c.args.right.now in
    let step = c.in_ok-reduce_column.ensures in
    let kept : take ((k + 1) * size) (map rectangle new) ≡ take ((k + 1) * size) (map rectangle cells) = take-map rectangle ((k + 1) * size) new ∙ ap (map rectangle) step.rows_kept ∙ sym (take-map rectangle ((k + 1) * size) cells) in
    step_done (rectangles g.E.Enclosure.SCALE) nought_rectangle size k (map rectangle cells) (map rectangle new) (map rectangle right) (Some (drop (k + 1) (map rectangle c.solve_sides.new.right))) c.requires.column_in
    (length-map cells rectangle ∙ c.requires.square) (length-map right rectangle ∙ c.requires.sides) step.stated kept step.entries c.in-Some.ensures.sides

pub returns-in-None-clause-step : goal.returns-in-None-clause-step
returns-in-None-clause-step g c =
    let rectangle = rectangle_of g.E.Enclosure.ends in
    let size = c.args.size in
    let k = c.args.column in
    let cells = c.args.cells.now in
    let new = c.reduce_column.new.cells in
    let right = c.args.right.now in
    let step = c.in_ok-reduce_column.ensures in
    let kept : take ((k + 1) * size) (map rectangle new) ≡ take ((k + 1) * size) (map rectangle cells) = take-map rectangle ((k + 1) * size) new ∙ ap (map rectangle) step.rows_kept ∙ sym (take-map rectangle ((k + 1) * size) cells) in
    step_done (rectangles g.E.Enclosure.SCALE) nought_rectangle size k (map rectangle cells) (map rectangle new) (map rectangle right) None c.requires.column_in
    (length-map cells rectangle ∙ c.requires.square) (length-map right rectangle ∙ c.requires.sides) step.stated kept step.entries c.in-None.ensures.sides
