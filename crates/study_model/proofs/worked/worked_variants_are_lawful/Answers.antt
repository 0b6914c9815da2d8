use Rattle.std.proofs.Common.{◌≤◌, arith, refl}
use Rattle.std.specs.Prelude.{length}
use Rattle.study_model.specs.Elements.{elements_of}
use Rattle.study_model.specs.Worked.{worked_candidate, worked_outage, worked_variants}
use Rattle.study_model.proofs.worked.worked_variants_are_lawful.Goals as goal

pub returns-clause-no_scan : goal.returns-clause-no_scan
returns-clause-no_scan c h =
    let candidate = h.candidates 0 (worked_candidate 2) (omega arith) in
    candidate.scan.1

pub returns-clause-twice : goal.returns-clause-twice
returns-clause-twice c h = h.tolerances_differ 0 1 0 (omega arith) (omega arith) refl

pub returns-clause-absent : goal.returns-clause-absent
returns-clause-absent c h =
    let outage = h.outages 0 (worked_outage 8) (omega arith) in
    let last : 8 ≤ length (elements_of (worked_variants 1 2 8)) = outage.element.1 in
    absurd (omega (arith, last))
