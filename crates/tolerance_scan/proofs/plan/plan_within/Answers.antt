use Rattle.std.proofs.Common.{List, ◌+◌, sym, subst, refl, arith}
use Rattle.study_scans.specs.declared.plan.PlannedScan.{PlannedScan}
use Rattle.study_scans.proofs.Plans.{Planning, planning_next, planning_end}
use Rattle.tolerance_scan.specs.Report.{tolerance_test}
use Rattle.tolerance_scan.proofs.plan.plan_within.Goals as goal

pub loop-scan-preserved : goal.loop-scan-preserved
loop-scan-preserved g c =
    subst (λ (l : List (PlannedScan g.row.E.Denot)). Planning (tolerance_test c.args.study.now) c.args.study.now l c.as_slice-scan-items.result.now (c.loop-scan.scan-index + 1)) (sym c.in_ok-push_back.ensures.items)
    (planning_next (tolerance_test c.args.study.now) c.args.study.now c.loop-scan.plan.items (record { scan = c.scan-item.result; walk = c.in_ok-walk.walk }) c.as_slice-scan-items.result.now c.loop-scan.scan-index c.scan-item.result
    c.loop-scan-test.true c.scan-item.is refl c.in_ok-walk.ensures c.loop-scan.invariant)

pub returns : goal.returns
returns g c =
    planning_end (tolerance_test c.args.study.now) c.args.study.now c.loop-scan.plan.items c.as_slice-scan-items.result.now c.loop-scan.scan-index (omega (arith, c.loop-scan-test.false, c.loop-scan.auto.scan-index-end))
    c.as_slice-scan-items.ensures c.loop-scan.invariant
