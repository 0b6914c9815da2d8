use Rattle.std.proofs.Common.{◌≡◌, take}
use Rattle.limits_report.specs.Report.{passes, count_of}
use Rattle.limits_report.proofs.report.count_passes.Given as goal

abbrev pub invariant-loop-row : goal.invariant-loop-row
invariant-loop-row l = l.count ≡ count_of passes (take l.row-index l.rows)
