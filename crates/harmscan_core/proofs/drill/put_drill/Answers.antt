use Rattle.std.proofs.Common.{ℕ}
use Rattle.harm_io.proofs.Writing.{writes_stop}
use Rattle.harmscan_core.specs.Texts.{drill_head_text, counts_text, counted_text}
use Rattle.harmscan_core.proofs.drill.put_drill.Goals as goal

pub returns-in-Err-clause-wrote : goal.returns-in-Err-clause-wrote
unfolding counted_text
returns-in-Err-clause-wrote g c =
    writes_stop (Unit {0}) ℕ (drill_head_text c.args.number c.args.nodes) (counts_text c.args.scan.now c.args.walk.now.left)
    (g.O.Sink.state c.args.out.now) (g.O.Sink.state c.put_drill_head.new.out) c.in-Err.fault c.in-Err.ensures
