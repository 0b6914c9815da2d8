use Rattle.std.proofs.Common.{◌≡◌, take}
use Rattle.limits_report.specs.Report.{is_undecided, count_of}
use Rattle.limits_report.proofs.report.count_undecided.Given as goal

abbrev pub invariant-loop-row : goal.invariant-loop-row
invariant-loop-row l = l.count ≡ count_of is_undecided (take l.row-index l.rows)
