-- The worked certificates, computed.
use Rattle.std.proofs.Common.{refl}
use Rattle.middle_inverse.specs.Inverse.{low_point, middle_point, one_rectangle, size_of, point_quotient, point_less, size_at}
use Rattle.certified_inverse.specs.Certificate.{add_times, ceil_over}
use Rattle.certified_inverse.specs.Worked.{WorkedCertificates}

pub worked : WorkedCertificates
unfolding low_point middle_point one_rectangle size_of point_quotient point_less size_at add_times ceil_over
worked = record { half = refl; wide = refl; near = refl; no_pivot = refl; too_wide = refl; two = refl; exchanged = refl; second_column = refl }
