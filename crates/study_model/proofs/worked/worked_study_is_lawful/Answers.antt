use Rattle.std.proofs.Common.{arith, pos}
use Rattle.std.proofs.lemmas.Int.{ints}
use Rattle.study_model.specs.Worked.{worked_scan}
use Rattle.study_model.proofs.worked.worked_study_is_lawful.Goals as goal

pub returns-clause-no_band : goal.returns-clause-no_band
returns-clause-no_band c h =
    let scan = h.scans 0 (worked_scan (pos 1000000)) (omega arith) in
    absurd (omega (arith, ints, scan.to.1))
