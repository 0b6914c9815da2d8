use Rattle.std.proofs.Common.{sym, subst}
use Rattle.std.proofs.lemmas.Result.{err_from_is_err_and}
use Rattle.phase_network.specs.Refusals.{IsPhaseRefusal}
use Rattle.phase_network.specs.Refusals.IsPhaseRefusal.{positive_passes, zero_passes, phases_pass}
use Rattle.phase_network.proofs.live.phase_network_of.Goals as goal

pub returns-in_err-positive-clause-refused : goal.returns-in_err-positive-clause-refused
returns-in_err-positive-clause-refused c =
    let p = err_from_is_err_and c.from_residual.result c.from_residual.ensures.1 in
    rw (p.1, p.2) (λ h. subst (IsPhaseRefusal c.args.study.now) (sym (c.in_err-positive.ensures.place h)) (positive_passes (c.in_err-positive.ensures.too_many h)))

pub returns-in_err-zero-clause-refused : goal.returns-in_err-zero-clause-refused
returns-in_err-zero-clause-refused c =
    let p = err_from_is_err_and c.from_residual-in_err-zero.result c.from_residual-in_err-zero.ensures.1 in
    rw (p.1, p.2) (λ h. subst (IsPhaseRefusal c.args.study.now) (sym (c.in_err-zero.ensures.place h)) (zero_passes c.in_ok-positive.ensures.network.fits (c.in_err-zero.ensures.too_many h)))

pub returns-in_err-phases-clause-refused : goal.returns-in_err-phases-clause-refused
returns-in_err-phases-clause-refused c =
    let p = err_from_is_err_and c.from_residual-in_err-phases.result c.from_residual-in_err-phases.ensures.1 in
    rw (p.1, p.2) (λ h. subst (IsPhaseRefusal c.args.study.now) (sym (c.in_err-phases.ensures.place h))
    (phases_pass (record { positive = c.in_ok-positive.ensures.network.fits; zero = c.in_ok-zero.ensures.network.fits }) (c.in_err-phases.ensures.too_many h)))
