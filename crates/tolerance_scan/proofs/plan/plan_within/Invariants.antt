use Rattle.study_scans.proofs.Plans.{Planning}
use Rattle.tolerance_scan.specs.Report.{tolerance_test}
use Rattle.tolerance_scan.proofs.plan.plan_within.Given as goal

abbrev pub invariant-loop-scan : goal.invariant-loop-scan
invariant-loop-scan g l = Planning (tolerance_test l.study) l.study l.plan.items l.scan-items l.scan-index
