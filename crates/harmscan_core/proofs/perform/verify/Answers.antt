use Rattle.std.proofs.Common.{refl}
use Rattle.harmscan_core.specs.Inputs.{checked_in}
use Rattle.harmscan_core.specs.Outcome.{ends, reports}
use Rattle.harmscan_core.proofs.perform.verify.Goals as goal

pub returns-in-Err : goal.returns-in-Err
returns-in-Err g c = ends c.in-Err.ensures.read refl

pub returns-in-Ok : goal.returns-in-Ok
returns-in-Ok g c = reports (checked_in c.in-Ok.checked) c.in-Ok.ensures.read c.report_verified.ensures
