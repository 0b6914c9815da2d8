use Rattle.std.proofs.Common.{arith}
use Rattle.net_branch.specs.Exact.{exact_network}
use Rattle.study_model.specs.declared.words.Sequence.TheVariants.{Zero}
use Rattle.sequence_network.proofs.Liveness.{buses_within}
use Rattle.phase_network.proofs.Refused.{live_in_zero, first_in_zero}
use Rattle.phase_network.specs.Refusals.{phase_floating_bus}
use Rattle.phase_network.proofs.live.check_zero.Goals as goal

pub first_dead-requires-clause-within : goal.first_dead-requires-clause-within
first_dead-requires-clause-within c =
    let zero = c.args.zero.now in
    let within = buses_within c.args.study.now Zero (exact_network zero) c.requires.zero.exact c.requires.zero.whole.exact.buses in
    omega (arith, within, c.len.ensures)

pub returns-in-None-clause-live : goal.returns-in-None-clause-live
returns-in-None-clause-live c = live_in_zero c.args.study.now (exact_network c.args.zero.now) c.len.result c.requires.zero.exact c.len.ensures c.in-None.ensures

pub returns-clause-floating : goal.returns-clause-floating
returns-clause-floating c h = phase_floating_bus c.in-Some.number (first_in_zero c.args.study.now (exact_network c.args.zero.now) c.len.result c.in-Some.number c.requires.zero.exact c.len.ensures c.in-Some.ensures)
