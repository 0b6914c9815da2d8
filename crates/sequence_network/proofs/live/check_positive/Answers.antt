use Rattle.std.proofs.Common.{length, arith}
use Rattle.std.proofs.lemmas.Result.{on_ok_weaker, MatchResult-weaker}
use Rattle.net_branch.specs.Exact.{exact_network}
use Rattle.study_model.specs.declared.words.Sequence.TheVariants.{Positive}
use Rattle.sequence_network.specs.Networks.{network_of}
use Rattle.sequence_network.proofs.Liveness.{buses_within, floating_bus_in, live_buses}
use Rattle.sequence_network.proofs.live.check_positive.Goals as goal

pub check_buses-requires-clause-within : goal.check_buses-requires-clause-within
check_buses-requires-clause-within c =
    let positive = c.args.positive.now in
    let within = buses_within c.args.study.now Positive (exact_network positive) c.requires.positive.exact c.requires.positive.whole.exact.buses in
    omega (arith, within, c.len.ensures)

pub returns-clause-live : goal.returns-clause-live
returns-clause-live c =
    on_ok_weaker c.check_buses.result (λ live. live_buses c.args.study.now (exact_network c.args.positive.now) c.len.result c.requires.positive.exact c.len.ensures live) c.check_buses.ensures.ok

pub returns-clause-floating : goal.returns-clause-floating
returns-clause-floating c =
    MatchResult-weaker c.check_buses.result c.check_buses.ensures.floating (λ x t. t)
    (λ fault f h. floating_bus_in (exact_network c.args.positive.now) (network_of c.args.study.now Positive) c.len.result (length c.args.study.now.buses) fault c.requires.positive.exact c.len.ensures f)
