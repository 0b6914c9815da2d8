-- The worked estimates.
use Rattle.std.proofs.Common.{refl}
use Rattle.middle_inverse.specs.Inverse.{low_point, middle_point, one_rectangle, size_of, point_quotient, point_less, size_at}
use Rattle.certified_inverse.specs.Certificate.{add_times, ceil_over}
use Rattle.branchwise_test.specs.Enclosed.{moved, near_of}
use Rattle.branchwise_test.specs.Worked.{WorkedEstimates}

pub worked_estimates : WorkedEstimates
unfolding near_of moved add_times ceil_over low_point middle_point one_rectangle size_of point_quotient point_less size_at
worked_estimates = record { resistance = refl; behind_ratio = refl; in_series = refl; wide = refl; too_wide = refl; no_pivot = refl }
