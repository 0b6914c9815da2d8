use Rattle.study_scans.specs.Scan.{test_of}
use Rattle.study_scans.proofs.Plans.{Planning}
use Rattle.study_scans.proofs.plan.plan_of.Given as goal

abbrev pub invariant-loop-scan : goal.invariant-loop-scan
invariant-loop-scan g l = Planning (test_of l.study) l.study l.plan.items l.scan-items l.scan-index
