use Rattle.std.proofs.Common.{List, ◌+◌, sym, subst, refl, arith}
use Rattle.study_scans.specs.Scan.{test_of}
use Rattle.study_scans.specs.declared.plan.PlannedScan.{PlannedScan}
use Rattle.study_scans.proofs.Plans.{Planning, planning_next, planning_end}
use Rattle.study_scans.proofs.plan.plan_of.Goals as goal

pub loop-scan-preserved : goal.loop-scan-preserved
loop-scan-preserved g c =
    subst (λ (l : List (PlannedScan g.row.E.Denot)). Planning (test_of c.args.study.now) c.args.study.now l c.as_slice-scan-items.result.now (c.loop-scan.scan-index + 1)) (sym c.in_ok-push_back.ensures.items)
    (planning_next (test_of c.args.study.now) c.args.study.now c.loop-scan.plan.items (record { scan = c.scan-item.result; walk = c.in_ok-walk.walk }) c.as_slice-scan-items.result.now c.loop-scan.scan-index c.scan-item.result
    c.loop-scan-test.true c.scan-item.is refl c.in_ok-walk.ensures c.loop-scan.invariant)

pub returns : goal.returns
returns g c = record {
  plan = planning_end (test_of c.args.study.now) c.args.study.now c.loop-scan.plan.items c.as_slice-scan-items.result.now c.loop-scan.scan-index (omega (arith, c.loop-scan-test.false, c.loop-scan.auto.scan-index-end)) c.as_slice-scan-items.ensures
      c.loop-scan.invariant;
}
