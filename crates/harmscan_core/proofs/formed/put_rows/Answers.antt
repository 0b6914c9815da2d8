use Rattle.harmscan_core.proofs.PutRows.{row_put, row_not_put}
use Rattle.harmscan_core.proofs.formed.put_rows.Goals as goal

pub returns-in-Err : goal.returns-in-Err
returns-in-Err g c =
    row_not_put _ (g.O.Sink.state c.loop-row.out) _ c.args.rows.now c.loop-row.row-index c.row-item.result c.write_row.new.line c.in-Err.fault
    c.loop-row-test.true c.row-item.is c.write_row.ensures.text c.loop-row.invariant c.in-Err.ensures

pub loop-row-preserved : goal.loop-row-preserved
loop-row-preserved g c =
    row_put _ (g.O.Sink.state c.loop-row.out) _ c.args.rows.now c.loop-row.row-index c.row-item.result c.write_row.new.line
    c.loop-row-test.true c.row-item.is c.write_row.ensures.text c.loop-row.invariant c.in-Ok.ensures
