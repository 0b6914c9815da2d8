use Rattle.std.proofs.Common.{sym, arith}
use Rattle.std.proofs.lemmas.Result.{err_from_is_err_and}
use Rattle.complex_interval.specs.Rect.{rectangle_of}
use Rattle.plain_elimination.specs.Rectangles.{rectangles}
use Rattle.plain_elimination.proofs.Systems.{solved_none, solved_more, solved_err, solved_all}
use Rattle.sparse_rows.proofs.solution.eliminate_system.Goals as goal

pub loop-column-init : goal.loop-column-init
loop-column-init g c = record { solved = solved_none (rectangles g.E.Enclosure.SCALE) (rectangle_of g.E.Enclosure.ends) c.args.cells.now c.args.right.now c.args.size; zeros = c.requires.zeros }

pub returns-in_err-solve_column-clause-stated : goal.returns-in_err-solve_column-clause-stated
returns-in_err-solve_column-clause-stated g c =
    let failed = solved_err (rectangles g.E.Enclosure.SCALE) (rectangle_of g.E.Enclosure.ends) c.args.cells.now c.args.right.now c.loop-column.cells c.loop-column.right c.args.size c.loop-column.column c.in_err-solve_column.field-0.0 c.loop-column-test.true (omega arith) c.in_err-solve_column.ensures.step c.loop-column.invariant.solved in
    let p = err_from_is_err_and c.from_residual.result c.from_residual.ensures.1 in
    rw (p.1, p.2) (sym failed)

pub loop-column-preserved : goal.loop-column-preserved
loop-column-preserved g c =
    let step = c.in_ok-solve_column.ensures in
    record {
      solved = solved_more (rectangles g.E.Enclosure.SCALE) (rectangle_of g.E.Enclosure.ends) c.args.cells.now c.args.right.now c.loop-column.cells c.solve_column.new.cells c.loop-column.right c.solve_column.new.right c.args.size c.loop-column.column c.loop-column-test.true (omega arith) step.step step.rows_kept step.sides_kept c.loop-column.invariant.solved;
      zeros = step.zeros;
    }

pub returns-clause-stated : goal.returns-clause-stated
returns-clause-stated g c = sym (solved_all (rectangles g.E.Enclosure.SCALE) (rectangle_of g.E.Enclosure.ends) c.args.cells.now c.args.right.now c.loop-column.cells c.loop-column.right c.args.size c.loop-column.column (omega arith) c.loop-column.invariant.solved)
