use Rattle.std.proofs.Common.{◌+◌, length, sym, arith}
use Rattle.complex_interval.specs.Rect.{rectangle_of}
use Rattle.plain_elimination.specs.Rectangles.{rectangles}
use Rattle.plain_elimination.proofs.Layouts.{rows_more, rows_none}
use Rattle.plain_elimination.proofs.rows.eliminate_rows.Goals as goal

pub returns-in_err-eliminate_at : goal.returns-in_err-eliminate_at
returns-in_err-eliminate_at g c =
    let rectangle = rectangle_of g.E.Enclosure.ends in
    let first = c.args.first.now in
    let none = rows_none (rectangles g.E.Enclosure.SCALE) rectangle (rectangle c.args.pivot) first c.args.later.now c.loop-i.later c.args.rows (c.args.column + 1 + length first) c.args.column c.loop-i.i c.loop-i-test.true (omega arith) c.in_err-eliminate_at.ensures.row c.loop-i.invariant in
    rw c.from_residual.ensures (sym none)

pub loop-i-preserved : goal.loop-i-preserved
loop-i-preserved g c =
    let rectangle = rectangle_of g.E.Enclosure.ends in
    let first = c.args.first.now in
    let step = c.in_ok-eliminate_at.ensures in
    rows_more (rectangles g.E.Enclosure.SCALE) rectangle (rectangle c.args.pivot) first c.args.later.now c.loop-i.later c.eliminate_at.new.cells c.args.rows (c.args.column + 1 + length first) c.args.column c.loop-i.i c.loop-i-test.true (omega arith) step.row step.before step.after c.loop-i.invariant
