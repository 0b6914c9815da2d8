use Rattle.std.proofs.Common.{refl}
use Rattle.harmscan_core.specs.Files.{ends, goes_on}
use Rattle.harmscan_core.proofs.inputs.checked_from.Goals as goal

pub returns-in-Err-clause-read : goal.returns-in-Err-clause-read
returns-in-Err-clause-read g c = ends c.in-Err.outcome c.in-Err.ensures.read refl

pub returns-in-Ok-right_report_from-clause-read : goal.returns-in-Ok-right_report_from-clause-read
returns-in-Ok-right_report_from-clause-read g c =
    goes_on c.in-Ok.accepted.study (g.F.Shelf.state c.study_from.new.shelf) c.in-Ok.ensures.read
    (goes_on c.in-Ok-right_report_from.right.report.rows (g.F.Shelf.state c.right_report_from.new.shelf) c.in-Ok-right_report_from.ensures.read (record { stays = refl; answer = refl }))

pub returns-in-Err-right_report_from-clause-read : goal.returns-in-Err-right_report_from-clause-read
returns-in-Err-right_report_from-clause-read g c =
    goes_on c.in-Ok.accepted.study (g.F.Shelf.state c.study_from.new.shelf) c.in-Ok.ensures.read
    (ends c.in-Err-right_report_from.outcome c.in-Err-right_report_from.ensures.read refl)
