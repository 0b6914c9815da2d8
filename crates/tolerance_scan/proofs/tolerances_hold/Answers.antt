use Rattle.tolerance_scan.proofs.Hold.{tolerances_hold}
use Rattle.tolerance_scan.proofs.tolerances_hold.Goals as goal

pub returns : goal.returns
returns c = record { law = tolerances_hold }
