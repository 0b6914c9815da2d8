use Rattle.distortion_bounds.proofs.Distortions.{voltage_is_bounded, current_is_bounded, total_voltage_is_bounded, total_current_is_bounded}
use Rattle.limits_report.proofs.Claims.{BoundsHold, claimed}
use Rattle.limits_report.proofs.Orders.{whatever}
use Rattle.limits_report.proofs.report.report_at.Goals as goal

pub returns-clause-claim : goal.returns-clause-claim
returns-clause-claim g c =
    let hold : BoundsHold = record { voltage = voltage_is_bounded; current = current_is_bounded; total_voltage = total_voltage_is_bounded; total_current = total_current_is_bounded } in
    whatever c.closed.result (claimed c.args.study.now c.args.spectrum.now.rows c.args.levels.now.rows hold c.requires.study c.in_ok-table.ensures.truth)
