-- The inverse of the middle of a square list of rectangles, by five steps a column. A point is a rectangle whose ends agree.
-- Each operation is that of rectangles, on points, and the low ends are kept before the next.
use Rattle.std.specs.Prelude.{ℕ, zero, suc, ◌+◌, ◌^◌, pos, ℤ, ◌+ℤ◌, ◌==◌, List, [], ◌∷◌, ◌++◌, length, take, drop, map, replicate, slice_get, Option, Some, None, Result, Ok, Err, if◌then◌else◌, option_map}
use Rattle.std.specs.List.{swap}
use Rattle.exact_algebra.specs.Floor.{floor_div}
use Rattle.complex_interval.specs.Ends.{Ends, mag_of}
use Rattle.complex_interval.specs.Rectangles.{Rectangle, sub_rectangles, mul_rectangles, div_rectangles}
pub use Rattle.plain_elimination.specs.Matrix.{nought_rectangle}
use Rattle.middle_inverse.specs.Lists.{and_then, each, each_two, first_greatest}
use Rattle.middle_inverse.specs.declared.fault.InverseFault.{InverseFault}
use Rattle.middle_inverse.specs.declared.fault.InverseFault.TheVariants.{NoInverse, OutOfRange}

-- f of the value, or the fault
abbrev pub bind : {X Y : Type 0} → Result X InverseFault → (X → Result Y InverseFault) → Result Y InverseFault
bind (Err e) f = Err e
bind (Ok x) f = f x

-- the value, if there is one
abbrev pub in_range : {X : Type 0} → Option X → Result X InverseFault
in_range None = Err OutOfRange
in_range (Some x) = Ok x

-- ---- points
abbrev pub point_ends : ℤ → Ends
point_ends raw = record { low = raw; high = raw }

-- the point of both low ends
unfoldable pub low_point : Rectangle → Rectangle
low_point a = record { re = point_ends a.re.low; im = point_ends a.im.low }

-- half the sum of the ends, rounded down
abbrev pub middle_of : Ends → ℤ
middle_of a = floor_div (a.low +ℤ a.high) 2

-- the point of both middles
unfoldable pub middle_point : Rectangle → Rectangle
middle_point a = record { re = point_ends (middle_of a.re); im = point_ends (middle_of a.im) }

-- the number 1 at a scale
unfoldable pub one_rectangle : ℕ → Rectangle
one_rectangle s = record { re = point_ends (pos (2 ^ s)); im = point_ends (pos 0) }

-- the sum of the sizes of both parts
unfoldable pub size_of : Rectangle → ℕ
size_of a = mag_of a.re + mag_of a.im

-- a/b
unfoldable pub point_quotient : ℕ → Rectangle → Rectangle → Option Rectangle
point_quotient s a b = option_map low_point (div_rectangles s a b)

-- a - f a0: the product's low ends are kept, then those of the difference
unfoldable pub point_less : ℕ → Rectangle → Rectangle → Rectangle → Option Rectangle
point_less s f a a0 = and_then (option_map low_point (mul_rectangles s f a0)) (λ t. option_map low_point (sub_rectangles a t))

-- ---- one column. Columns count from 0, and NoInverse names them from 1.
-- the size of a value that may be absent, 0 where it is
abbrev pub size_or : Option Rectangle → ℕ
size_or None = 0
size_or (Some a) = size_of a

-- the size of a row's entry in this column
unfoldable pub size_at : ℕ → List Rectangle → ℕ
size_at j row = size_or (slice_get row j)

-- the row whose entry is the greatest, the first on ties, changes places with the first row
abbrev pub pivot_first : ℕ → List (List Rectangle) → List (List Rectangle)
pivot_first j rows = swap rows 0 (first_greatest (map (size_at j) rows))

-- the pivot's row is divided by the pivot
abbrev pub divided_row : ℕ → Rectangle → List Rectangle → Option (List Rectangle)
divided_row s pivot row = each (λ a. point_quotient s a pivot) row

-- from another row its entry in this column times the pivot's row is subtracted
abbrev pub cleared_row : ℕ → ℕ → List Rectangle → List Rectangle → Option (List Rectangle)
cleared_row s j first row = and_then (slice_get row j) (λ f. each_two (point_less s f) row first)

-- the rows with a pivot's row in its place: above it, itself, below it
abbrev pub by_pivot : ℕ → ℕ → List (List Rectangle) → List Rectangle → List (List Rectangle) → Rectangle → Result (List (List Rectangle)) InverseFault
by_pivot s j above first below pivot =
    if size_of pivot == 0
    then Err (NoInverse (j + 1))
    else in_range (
    and_then (divided_row s pivot first) (λ q.
    and_then (each (cleared_row s j q) above) (λ a.
    and_then (each (cleared_row s j q) below) (λ b. Some (a ++ q ∷ b)))))

abbrev pub by_rows : ℕ → ℕ → List (List Rectangle) → List (List Rectangle) → Result (List (List Rectangle)) InverseFault
by_rows s j above [] = Err OutOfRange
by_rows s j above (first ∷ below) = bind (in_range (slice_get first j)) (by_pivot s j above first below)

-- the five steps of column j
abbrev pub column_step : ℕ → ℕ → List (List Rectangle) → Result (List (List Rectangle)) InverseFault
column_step s j rows = by_rows s j (take j rows) (pivot_first j (drop j rows))

-- n columns from this one on
abbrev pub columns_from : ℕ → ℕ → ℕ → List (List Rectangle) → Result (List (List Rectangle)) InverseFault
columns_from s j zero rows = Ok rows
columns_from s j (suc n) rows = bind (column_step s j rows) (λ rows. columns_from s (suc j) n rows)

-- ---- the whole
-- of n entries, one at this place and nought elsewhere
abbrev pub unit_row : {X : Type 0} → X → X → ℕ → ℕ → List X
unit_row one nought zero i = []
unit_row one nought (suc n) zero = one ∷ replicate n nought
unit_row one nought (suc n) (suc i) = nought ∷ unit_row one nought n i

-- the rows from number i on, each with its unit row of n entries beside it
abbrev pub with_units : ℕ → ℕ → ℕ → List (List Rectangle) → List (List Rectangle)
with_units s n i [] = []
with_units s n i (row ∷ rows) = (map middle_point row ++ unit_row (one_rectangle s) nought_rectangle n i) ∷ with_units s n (suc i) rows

-- what stands in the place of the unit matrix at last
abbrev pub middle_inverse : ℕ → List (List Rectangle) → Result (List (List Rectangle)) InverseFault
middle_inverse s rows =
    let n = length rows in
    bind (columns_from s 0 n (with_units s n 0 rows)) (λ rows. Ok (map (λ row. drop n row) rows))
