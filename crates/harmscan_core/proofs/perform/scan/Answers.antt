use Rattle.std.proofs.Common.{refl}
use Rattle.harmscan_core.specs.Files.{ends as stops, goes_on}
use Rattle.harmscan_core.specs.Outcome.{ends, reports}
use Rattle.harmscan_core.specs.Subject.{scanned}
use Rattle.harmscan_core.proofs.perform.scan.Goals as goal

pub returns-in-Err : goal.returns-in-Err
returns-in-Err g c = ends (stops c.in-Err.outcome c.in-Err.ensures.read refl) refl

pub returns-in-Ok : goal.returns-in-Ok
returns-in-Ok g c =
    reports (scanned c.in-Ok.accepted.study)
    (goes_on c.in-Ok.accepted.study (g.F.Shelf.state c.study_from.new.shelf) c.in-Ok.ensures.read (record { stays = refl; answer = refl })) c.report_scans.ensures
