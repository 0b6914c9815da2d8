use Rattle.std.proofs.Common.{◌+◌, length, sym, arith}
use Rattle.complex_interval.specs.Rect.{rectangle_of}
use Rattle.plain_elimination.specs.Rectangles.{rectangles}
use Rattle.plain_elimination.proofs.Lines.{lined_more, lined_err}
use Rattle.plain_elimination.proofs.rows.eliminate_lines.Goals as goal

pub returns-in_err-changed : goal.returns-in_err-changed
returns-in_err-changed g c =
    let rectangle = rectangle_of g.E.Enclosure.ends in
    let first = c.args.first.now in
    let none = lined_err (rectangles g.E.Enclosure.SCALE) rectangle (rectangle c.args.pivot) first (rectangle c.args.first_right) c.args.later.now c.args.right.now c.loop-i.later c.loop-i.right (c.args.column + 1 + length first) c.args.column c.loop-i.i c.index-right-i.result (omega arith) c.index-right-i.is (omega arith) c.in_err-changed.ensures.line c.loop-i.invariant in
    rw c.from_residual.ensures (sym none)

pub loop-i-preserved : goal.loop-i-preserved
loop-i-preserved g c =
    let rectangle = rectangle_of g.E.Enclosure.ends in
    let first = c.args.first.now in
    let step = c.in_ok-changed.ensures in
    lined_more (rectangles g.E.Enclosure.SCALE) rectangle (rectangle c.args.pivot) first (rectangle c.args.first_right) c.args.later.now c.args.right.now c.loop-i.later c.eliminate_line_at.new.cells c.loop-i.right (c.args.column + 1 + length first) c.args.column c.loop-i.i c.index-right-i.result c.in_ok-changed.changed (omega arith) c.index-right-i.is (omega arith) step.line step.before step.after c.loop-i.invariant
