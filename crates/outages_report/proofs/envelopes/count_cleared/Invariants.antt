use Rattle.std.proofs.Common.{◌≡◌, take}
use Rattle.std.specs.Prelude.{count_by}
use Rattle.outages_report.specs.Cases.{is_cleared_case}
use Rattle.outages_report.proofs.envelopes.count_cleared.Given as goal

abbrev pub invariant-loop-case : goal.invariant-loop-case
invariant-loop-case l = l.count ≡ count_by is_cleared_case (take l.case-index l.cases)
