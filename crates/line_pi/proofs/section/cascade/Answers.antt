use Rattle.std.proofs.Common.{◌-◌, map, arith}
use Rattle.net_branch.specs.Exact.{exact_law}
use Rattle.line_pi.proofs.Cascade.{one_more}
use Rattle.line_pi.proofs.section.cascade.Goals as goal

pub loop-i-preserved : goal.loop-i-preserved
loop-i-preserved c =
    one_more (exact_law c.args.series) (map exact_law c.args.end.now) c.loop-i.near c.args.next c.loop-i.i (c.args.line.now.sections - 1) c.args.line.now.to c.args.owner _ _ _ (omega (arith, c.loop-i-test.true)) c.in_ok-push_section.ensures
    c.loop-i.invariant
