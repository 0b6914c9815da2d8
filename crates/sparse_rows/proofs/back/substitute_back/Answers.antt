use Rattle.std.proofs.Common.{◌-◌, sym, arith}
use Rattle.std.proofs.lemmas.Result.{err_from_is_err_and}
use Rattle.complex_interval.specs.Rect.{rectangle_of}
use Rattle.plain_elimination.specs.Rectangles.{rectangles}
use Rattle.plain_elimination.proofs.Systems.{back_none, back_more, back_err, back_all}
use Rattle.sparse_rows.proofs.back.substitute_back.Goals as goal

pub loop-row-init : goal.loop-row-init
loop-row-init g c = back_none (rectangles g.E.Enclosure.SCALE) (rectangle_of g.E.Enclosure.ends) c.args.cells.now c.args.right.now c.args.size c.requires.sides

pub returns-in_err-solve_row : goal.returns-in_err-solve_row
returns-in_err-solve_row g c =
    let failed = back_err (rectangles g.E.Enclosure.SCALE) (rectangle_of g.E.Enclosure.ends) c.args.cells.now c.args.right.now c.loop-row.right c.args.size (c.loop-row.row - 1) c.loop-row.row c.in_err-solve_row.field-0.0 (omega arith) c.in_err-solve_row.ensures.unknown c.loop-row.invariant in
    let p = err_from_is_err_and c.from_residual.result c.from_residual.ensures.1 in
    rw (p.1, p.2) (sym failed)

pub loop-row-preserved : goal.loop-row-preserved
loop-row-preserved g c =
    let row = c.in_ok-solve_row.ensures in
    back_more (rectangles g.E.Enclosure.SCALE) (rectangle_of g.E.Enclosure.ends) c.args.cells.now c.args.right.now c.loop-row.right c.solve_row.new.right c.args.size (c.loop-row.row - 1) c.loop-row.row (omega arith) row.unknown row.kept c.loop-row.invariant

pub returns : goal.returns
returns g c = sym (back_all (rectangles g.E.Enclosure.SCALE) (rectangle_of g.E.Enclosure.ends) c.args.cells.now c.args.right.now c.loop-row.right c.args.size c.loop-row.row (omega arith) c.loop-row.invariant)
