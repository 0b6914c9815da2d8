use Rattle.std.proofs.lemmas.Result.{on_ok_weaker, MatchResult-weaker}
use Rattle.net_branch.specs.Exact.{exact_network}
use Rattle.study_model.specs.declared.words.Sequence.TheVariants.{Zero}
use Rattle.sequence_network.specs.Networks.{network_of}
use Rattle.sequence_network.proofs.Liveness.{buses_within, scans_within, floating_scan_in, live_scans}
use Rattle.sequence_network.proofs.live.check_zero.Goals as goal

pub check_scans-requires-clause-within : goal.check_scans-requires-clause-within
check_scans-requires-clause-within c =
    let zero = c.args.zero.now in
    let within = buses_within c.args.study.now Zero (exact_network zero) c.requires.zero.exact c.requires.zero.whole.exact.buses in
    scans_within c.args.study.now c.as_slice.result.now zero.nodes c.as_slice.ensures c.requires.study.scans within

pub returns-clause-live : goal.returns-clause-live
returns-clause-live c =
    on_ok_weaker c.check_scans.result (λ live. live_scans (exact_network c.args.zero.now) (network_of c.args.study.now Zero) c.as_slice.result.now c.args.study.now.scans c.requires.zero.exact c.as_slice.ensures live)
    c.check_scans.ensures.ok

pub returns-clause-floating : goal.returns-clause-floating
returns-clause-floating c =
    MatchResult-weaker c.check_scans.result c.check_scans.ensures.floating (λ x t. t)
    (λ fault f h. floating_scan_in (exact_network c.args.zero.now) (network_of c.args.study.now Zero) c.as_slice.result.now c.args.study.now.scans fault c.requires.zero.exact c.as_slice.ensures f)
