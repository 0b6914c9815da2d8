use Rattle.threshold_curve.proofs.Least.{least_is_below, least_is_reached, flat_is_flat}
use Rattle.threshold_curve.proofs.laws.least_of_a_curve.Goals as goal

pub returns : goal.returns
returns c = record { below = least_is_below; reached = least_is_reached; flat = flat_is_flat }
