-- Reduction and solving at scale 40 of rectangles that were worked by hand, for the definitions to be compared with.
use Rattle.std.specs.Prelude.{◌≡◌, ℤ, pos, negsuc, [], ◌∷◌, Ok, Err}
use Rattle.complex_interval.specs.Rectangles.{Rectangle}
use Rattle.plain_elimination.specs.Matrix.{nought_rectangle}
use Rattle.plain_elimination.specs.Rectangles.{reduce_rectangles, solve_rectangles}
use Rattle.plain_elimination.specs.declared.failure.Failure.TheVariants.{PivotHoldsZero, OutOfRange}

-- the real number with this raw value alone
abbrev pub raw_rectangle : ℤ → Rectangle
raw_rectangle x = record { re = record { low = x; high = x }; im = record { low = pos 0; high = pos 0 } }

-- 1 and 2
abbrev pub one_rectangle : Rectangle
one_rectangle = raw_rectangle (pos 1099511627776)

abbrev pub two_rectangle : Rectangle
two_rectangle = raw_rectangle (pos 2199023255552)

-- from -1 to 1
abbrev pub around_zero : Rectangle
around_zero = record { re = record { low = negsuc 1099511627775; high = pos 1099511627776 }; im = record { low = pos 0; high = pos 0 } }

-- the greatest number in range, 2^22
abbrev pub greatest_rectangle : Rectangle
greatest_rectangle = raw_rectangle (pos 4611686018427387904)

pub record WorkedReductions : Type 0 where
  -- the entry 2 alone reduces to 2
  pub alone : reduce_rectangles 40 ((two_rectangle ∷ []) ∷ []) ≡ Ok two_rectangle
  -- an entry that holds zero is the value too, if it is left alone: the last pivot of a reduction is not tested
  pub alone_around_zero : reduce_rectangles 40 ((around_zero ∷ []) ∷ []) ≡ Ok around_zero
  -- the rows (2, 1) and (1, 2) reduce to 3/2
  pub reduced : reduce_rectangles 40 ((two_rectangle ∷ one_rectangle ∷ []) ∷ (one_rectangle ∷ two_rectangle ∷ []) ∷ []) ≡ Ok (raw_rectangle (pos 1649267441664))
  -- a later row that begins with exact zero stays
  pub stays : reduce_rectangles 40 ((two_rectangle ∷ greatest_rectangle ∷ []) ∷ (nought_rectangle ∷ one_rectangle ∷ []) ∷ []) ≡ Ok one_rectangle
  -- the first pivot holds zero
  pub first_pivot : reduce_rectangles 40 ((around_zero ∷ one_rectangle ∷ []) ∷ (one_rectangle ∷ two_rectangle ∷ []) ∷ []) ≡ Err (PivotHoldsZero 1)
  -- of the rows (1, 1, 0), (1, 1, 1) and (0, 1, 1) the second pivot is 1 - 1
  pub second_pivot : reduce_rectangles 40 ((one_rectangle ∷ one_rectangle ∷ nought_rectangle ∷ []) ∷ (one_rectangle ∷ one_rectangle ∷ one_rectangle ∷ []) ∷ (nought_rectangle ∷ one_rectangle ∷ one_rectangle ∷ []) ∷ []) ≡ Err (PivotHoldsZero 2)
  -- 2 · 2^22 is out of range
  pub too_great : reduce_rectangles 40 ((one_rectangle ∷ greatest_rectangle ∷ []) ∷ (two_rectangle ∷ one_rectangle ∷ []) ∷ []) ≡ Err (OutOfRange 1)
  -- 2x = 1
  pub half : solve_rectangles 40 ((two_rectangle ∷ []) ∷ []) (one_rectangle ∷ []) ≡ Ok (raw_rectangle (pos 549755813888) ∷ [])
  -- 2x + y = 2 and x + 2y = 5/2 at x = 1/2 and y = 1
  pub solved : solve_rectangles 40 ((two_rectangle ∷ one_rectangle ∷ []) ∷ (one_rectangle ∷ two_rectangle ∷ []) ∷ []) (two_rectangle ∷ raw_rectangle (pos 2748779069440) ∷ [])
      ≡ Ok (raw_rectangle (pos 549755813888) ∷ one_rectangle ∷ [])
  -- solving tests the last pivot too
  pub last_pivot : solve_rectangles 40 ((one_rectangle ∷ one_rectangle ∷ []) ∷ (one_rectangle ∷ one_rectangle ∷ []) ∷ []) (one_rectangle ∷ one_rectangle ∷ []) ≡ Err (PivotHoldsZero 2)
  -- on the way back of x + 2y = 0 and y = 2^22 the product 2y is out of range at row 1
  pub way_back : solve_rectangles 40 ((one_rectangle ∷ two_rectangle ∷ []) ∷ (nought_rectangle ∷ one_rectangle ∷ []) ∷ []) (nought_rectangle ∷ greatest_rectangle ∷ []) ≡ Err (OutOfRange 1)
