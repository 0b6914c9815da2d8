use Rattle.distortion_bounds.proofs.Distortions.{voltage_is_bounded, current_is_bounded, total_voltage_is_bounded, total_current_is_bounded}
use Rattle.distortion_bounds.proofs.laws.distortion_is_bounded.Goals as goal

pub returns : goal.returns
returns c = record { voltage = voltage_is_bounded; current = current_is_bounded; total_voltage = total_voltage_is_bounded; total_current = total_current_is_bounded }
