use Rattle.std.proofs.Common.{sym, subst}
use Rattle.std.proofs.lemmas.Result.{err_from_is_err_and}
use Rattle.sequence_network.specs.Refusals.{IsLiveRefusal}
use Rattle.sequence_network.specs.Refusals.IsLiveRefusal.{positive_passes, zero_passes}
use Rattle.sequence_network.proofs.live.networks_of.Goals as goal

pub returns-in_err-positive-clause-refused : goal.returns-in_err-positive-clause-refused
returns-in_err-positive-clause-refused c =
    let p = err_from_is_err_and c.from_residual.result c.from_residual.ensures.1 in
    rw (p.1, p.2) (λ h. subst (IsLiveRefusal c.args.study.now) (sym (c.in_err-positive.ensures.place h)) (positive_passes (c.in_err-positive.ensures.too_many h)))

pub returns-in_err-zero-clause-refused : goal.returns-in_err-zero-clause-refused
returns-in_err-zero-clause-refused c =
    let p = err_from_is_err_and c.from_residual-in_err-zero.result c.from_residual-in_err-zero.ensures.1 in
    rw (p.1, p.2) (λ h. subst (IsLiveRefusal c.args.study.now) (sym (c.in_err-zero.ensures.place h)) (zero_passes c.in_ok-positive.ensures.network.fits (c.in_err-zero.ensures.too_many h)))
