use Rattle.std.proofs.Common.{arith, ◌<◌}
use Rattle.limits_report.specs.Fit.{AreFitCells}
use Rattle.limits_report.specs.Table.{occurs, cells_of}
use Rattle.limits_report.specs.Truth.{IsTrueOrder}
use Rattle.limits_report.proofs.Orders.{table_of_more, images_of_more, all_of_more}
use Rattle.limits_report.proofs.table.+push_orders.Goals as goal

pub returns-clause-table : goal.returns-clause-table
returns-clause-table g t c =
    let some : 0 < c.args.left = omega (arith, c.if-left-eq0.false) in
    table_of_more c.push_orders.result (cells_of c.args.study.now c.args.spectrum.now.rows) (occurs c.args.spectrum.now.rows) c.args.order c.args.left
    c.args.table.now c.push_order.new.table c.push_orders.new.table some c.in_ok-push_order.ensures.table c.push_orders.ensures.table

pub returns-clause-fit : goal.returns-clause-fit
returns-clause-fit g t c =
    let some : 0 < c.args.left = omega (arith, c.if-left-eq0.false) in
    images_of_more c.push_orders.result AreFitCells (cells_of c.args.study.now c.args.spectrum.now.rows) (occurs c.args.spectrum.now.rows) c.args.order c.args.left
    some c.in_ok-push_order.ensures.fit c.push_orders.ensures.fit

pub returns-clause-truth : goal.returns-clause-truth
returns-clause-truth g t c =
    let some : 0 < c.args.left = omega (arith, c.if-left-eq0.false) in
    all_of_more c.push_orders.result (IsTrueOrder c.args.study.now c.args.spectrum.now.rows) (occurs c.args.spectrum.now.rows) c.args.order c.args.left
    some c.in_ok-push_order.ensures.truth c.push_orders.ensures.truth
