use Rattle.std.proofs.Common.{◌≡◌, ◌≤◌, drop}
use Rattle.report_verify.specs.Told.{IsTold, told_at}
use Rattle.report_verify.specs.Checks.{checking_in, scan_check}
use Rattle.report_verify.proofs.scans.check_scan.Given as goal

abbrev pub invariant-loop-row : goal.invariant-loop-row
invariant-loop-row g l = record {
  same : l.checker ≡ l.fn.checker;
  count : l.lines ≡ l.row-index;
  told : IsTold l.told;
  from : l.fn.checker.spec.from ≤ l.told.reached;
  on : scan_check (checking_in g.E.Enclosure.SCALE l.fn.checker) l.told l.line (drop l.row-index l.rows)
      ≡ scan_check (checking_in g.E.Enclosure.SCALE l.fn.checker) (told_at l.fn.checker.spec.from) l.fn.first l.rows;
}
