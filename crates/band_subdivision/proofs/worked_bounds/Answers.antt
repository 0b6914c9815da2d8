use Rattle.std.proofs.Common.{refl}
use Rattle.band_subdivision.specs.IntervalTest.{inverse_threshold, clear_bound, above_bound}
use Rattle.band_subdivision.specs.InverseTest.{unit_threshold, most_within, least_above}
use Rattle.band_subdivision.specs.WorkedBounds.{WorkedBounds}
use Rattle.band_subdivision.proofs.worked_bounds.Goals as goal
use Rattle.exact_algebra.specs.Ratio.{den}

worked : WorkedBounds
unfolding inverse_threshold unit_threshold clear_bound above_bound most_within least_above den
worked = record { half_clear = refl; half_above = refl; third_clear = refl; third_above = refl; third_within = refl; third_over = refl }

pub returns : goal.returns
returns c = record { law = worked }
