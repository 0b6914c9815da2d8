use Rattle.harmscan_core.proofs.PutRows.{Putting}
use Rattle.harmscan_core.proofs.formed.put_rows.Given as goal

abbrev pub invariant-loop-row : goal.invariant-loop-row
invariant-loop-row g l = Putting (g.O.Sink.state l.initial.out) (g.O.Sink.state l.out) l.rows l.row-index
