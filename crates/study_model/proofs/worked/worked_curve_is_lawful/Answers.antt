use Rattle.std.proofs.Common.{◌<◌, arith, pos}
use Rattle.std.specs.Prelude.{◌≤ℤ◌}
use Rattle.std.proofs.lemmas.Int.{ints}
use Rattle.study_model.specs.Worked.{worked_scan}
use Rattle.study_model.proofs.worked.worked_curve_is_lawful.Goals as goal

pub returns-clause-shorter : goal.returns-clause-shorter
returns-clause-shorter c = λ h.
    let scan = h.scans 0 (worked_scan (pos 10000000)) (omega arith) in
    let last : pos 10000000 ≤ℤ pos 9999999 = scan.curve.1.last in
    absurd (omega (arith, ints, last))

pub returns-clause-level : goal.returns-clause-level
returns-clause-level c = λ h.
    let scan = h.scans 0 (worked_scan (pos 10000000)) (omega arith) in
    let rises : 1000000 < 1000000 = scan.curve.0.rising 0 (omega arith) in
    absurd (omega (arith, rises))
