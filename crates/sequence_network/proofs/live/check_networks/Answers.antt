use Rattle.std.proofs.lemmas.Result.{err_from_is_err_and, on_ok_weaker, MatchResult-weaker}
use Rattle.sequence_network.specs.Refusals.{HaveRoom}
use Rattle.sequence_network.specs.Refusals.IsLiveRefusal.{bus, scan}
use Rattle.sequence_network.proofs.live.check_networks.Goals as goal

pub returns-in_err-check_positive-clause-refused : goal.returns-in_err-check_positive-clause-refused
returns-in_err-check_positive-clause-refused c =
    let p = err_from_is_err_and c.from_residual.result c.from_residual.ensures.1 in
    let room : HaveRoom c.args.study.now = record { positive = c.requires.positive.fits; zero = c.requires.zero.fits } in
    rw (p.1, p.2) (λ h. bus _ room (c.in_err-check_positive.ensures.floating h))

pub returns-clause-refused : goal.returns-clause-refused
returns-clause-refused c =
    let room : HaveRoom c.args.study.now = record { positive = c.requires.positive.fits; zero = c.requires.zero.fits } in
    MatchResult-weaker c.check_zero.result c.check_zero.ensures.floating (λ x t. t) (λ fault f h. scan fault room c.in_ok-check_positive.ensures.live (f h))

pub returns-clause-live : goal.returns-clause-live
returns-clause-live c =
    let room : HaveRoom c.args.study.now = record { positive = c.requires.positive.fits; zero = c.requires.zero.fits } in
    on_ok_weaker c.check_zero.result (λ s. record { room = room; buses = c.in_ok-check_positive.ensures.live; scans = s }) c.check_zero.ensures.live
