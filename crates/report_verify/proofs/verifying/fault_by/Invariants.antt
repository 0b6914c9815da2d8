use Rattle.report_verify.proofs.Steps.{Standing}
use Rattle.report_verify.proofs.verifying.fault_by.Given as goal

abbrev pub invariant-loop-scan : goal.invariant-loop-scan
invariant-loop-scan g l = Standing l.study l.fn.rows l.scan-index l.found l.line l.place
