use Rattle.std.proofs.Common.{◌-◌, ◌+◌, ◌*◌, arith}
use Rattle.std.specs.Prelude.{option_map}
use Rattle.net_branch.specs.Exact.{exact_law}
use Rattle.element_parts.specs.Couplings.{exact_coupling}
use Rattle.element_parts.specs.Phases.{first_node}
use Rattle.line_pi.proofs.PhaseCascade.{one_more, last_one}
use Rattle.line_pi.proofs.phase_section.phase_cascade.Goals as goal

pub loop-i-preserved : goal.loop-i-preserved
loop-i-preserved c =
    let laws = c.args.laws in
    let i = c.loop-i.i in
    record {
      near = omega (arith, c.loop-i-test.true, c.requires.next, c.requires.few);
      sections = one_more (exact_coupling laws.values) (option_map exact_law laws.shunt) (option_map exact_law laws.pair) c.loop-i.near (c.args.next + 3 * i) (c.args.next + 3 * (i + 1)) (c.args.line.now.sections - 1 - i) (c.args.line.now.sections - 1 - (i + 1)) (first_node c.args.line.now.to) (c.args.group + i) (c.args.group + (i + 1)) c.args.owner _ _ _
          (omega (arith, c.loop-i-test.true)) (omega arith) (omega arith) c.in_ok-push_phase_section.ensures c.loop-i.invariant.sections;
    }

pub returns : goal.returns
returns c =
    let laws = c.args.laws in
    let i = c.loop-i.i in
    last_one (exact_coupling laws.values) (option_map exact_law laws.shunt) (option_map exact_law laws.pair) c.loop-i.near (c.args.next + 3 * i) (c.args.line.now.sections - 1 - i) (first_node c.args.line.now.to) c.first_node-far.result (c.args.group + i) (c.args.group + (c.args.line.now.sections - 1)) c.args.owner _ _ _
    (omega (arith, c.loop-i-test.false)) c.first_node-far.ensures.value (omega (arith, c.loop-i-test.false)) c.in_ok-push_phase_section-2.ensures c.loop-i.invariant.sections
