-- Certificates at scale 40 that were worked by hand.
use Rattle.std.specs.Prelude.{◌≡◌, ℤ, pos, negsuc, [], ◌∷◌}
use Rattle.complex_interval.specs.Rectangles.{Rectangle}
use Rattle.certified_inverse.specs.declared.outcome.InverseOutcome.TheVariants.{Enclosed, NoInverse, NotContracting}
use Rattle.certified_inverse.specs.Certificate.{certified, enclosure}

-- a real interval
abbrev pub real_rectangle : ℤ → ℤ → Rectangle
real_rectangle low high = record { re = record { low = low; high = high }; im = record { low = pos 0; high = pos 0 } }

pub record WorkedCertificates : Type 0 where
  -- of the matrix (2) and 1/2 in the place of its inverse: exactly 1/2
  pub half : certified 40 0 ((real_rectangle (pos 549755813888) (pos 549755813888) ∷ []) ∷ []) ((real_rectangle (pos 2199023255552) (pos 2199023255552) ∷ []) ∷ []) ≡ Enclosed (pos 549755813888) (pos 0) 0
  -- of an entry from 0 to 2 and 1: a row sum of 1
  pub wide : certified 40 0 ((real_rectangle (pos 1099511627776) (pos 1099511627776) ∷ []) ∷ []) ((real_rectangle (pos 0) (pos 2199023255552) ∷ []) ∷ []) ≡ NotContracting 1099511627776
  -- of an entry from 1 to 1.5 and 1: theta and sigma are 1/2, so the error is 1
  pub near : certified 40 0 ((real_rectangle (pos 1099511627776) (pos 1099511627776) ∷ []) ∷ []) ((real_rectangle (pos 1099511627776) (pos 1649267441664) ∷ []) ∷ []) ≡ Enclosed (pos 1099511627776) (pos 0) 1099511627776
  -- with the stated inverse: no pivot in an entry that is 0, a row sum of 1 for an entry from 0 to 2, exactly 1/2 for the entry 2
  pub no_pivot : enclosure 40 0 ((real_rectangle (pos 0) (pos 0) ∷ []) ∷ []) ≡ NoInverse 1
  pub too_wide : enclosure 40 0 ((real_rectangle (pos 0) (pos 2199023255552) ∷ []) ∷ []) ≡ NotContracting 1099511627776
  pub two : enclosure 40 0 ((real_rectangle (pos 2199023255552) (pos 2199023255552) ∷ []) ∷ []) ≡ Enclosed (pos 549755813888) (pos 0) 0
  -- rows that change places: of (0, 1) and (1, 2) the inverse is (-2, 1) and (1, 0)
  pub exchanged : enclosure 40 0 ((real_rectangle (pos 0) (pos 0) ∷ real_rectangle (pos 1099511627776) (pos 1099511627776) ∷ []) ∷ (real_rectangle (pos 1099511627776) (pos 1099511627776) ∷ real_rectangle (pos 2199023255552) (pos 2199023255552) ∷ []) ∷ []) ≡ Enclosed (negsuc 2199023255551) (pos 0) 0
  -- column 2 has no pivot
  pub second_column : enclosure 40 0 ((real_rectangle (pos 1099511627776) (pos 1099511627776) ∷ real_rectangle (pos 1099511627776) (pos 1099511627776) ∷ []) ∷ (real_rectangle (pos 1099511627776) (pos 1099511627776) ∷ real_rectangle (pos 1099511627776) (pos 1099511627776) ∷ []) ∷ []) ≡ NoInverse 2
