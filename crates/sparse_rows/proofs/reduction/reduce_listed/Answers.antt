use Rattle.std.proofs.Common.{sym, arith}
use Rattle.std.proofs.lemmas.Result.{err_from_is_err_and}
use Rattle.complex_interval.specs.Rect.{rectangle_of}
use Rattle.plain_elimination.specs.Rectangles.{rectangles}
use Rattle.plain_elimination.proofs.Left.{reduced_none, reduced_more, reduced_err, reduced_all}
use Rattle.sparse_rows.proofs.reduction.reduce_listed.Goals as goal

pub returns-in_err-reduce_column-clause-stated : goal.returns-in_err-reduce_column-clause-stated
returns-in_err-reduce_column-clause-stated g c =
    let failed = reduced_err (rectangles g.E.Enclosure.SCALE) (rectangle_of g.E.Enclosure.ends) c.args.cells.now c.loop-column.cells c.args.size c.loop-column.column c.in_err-reduce_column.field-0.0 c.loop-column-test.true c.in_err-reduce_column.ensures.stated c.loop-column.invariant.0 in
    let p = err_from_is_err_and c.from_residual.result c.from_residual.ensures.1 in
    rw (p.1, p.2) (sym failed)

pub loop-column-init : goal.loop-column-init
loop-column-init g c = (reduced_none (rectangles g.E.Enclosure.SCALE) (rectangle_of g.E.Enclosure.ends) c.args.cells.now c.args.size, c.requires.zeros)

pub loop-column-preserved : goal.loop-column-preserved
loop-column-preserved g c = (
  reduced_more (rectangles g.E.Enclosure.SCALE) (rectangle_of g.E.Enclosure.ends) c.args.cells.now c.loop-column.cells c.reduce_column.new.cells c.args.size c.loop-column.column c.loop-column-test.true c.in_ok-reduce_column.ensures.stated c.loop-column.invariant.0,
  c.in_ok-reduce_column.ensures.zeros,
)

pub returns-clause-stated : goal.returns-clause-stated
returns-clause-stated g c =
    let all = reduced_all (rectangles g.E.Enclosure.SCALE) (rectangle_of g.E.Enclosure.ends) c.args.cells.now c.loop-column.cells c.args.size c.loop-column.column _ c.index-cells-cells.result (omega arith) c.requires.some (omega arith) (omega arith) c.index-cells-cells.is c.loop-column.invariant.0 in
    sym all
