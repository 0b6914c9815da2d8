-- What an approximate inverse shows of a square list of rectangles. All sums go in ascending order.
use Rattle.std.specs.Prelude.{◌≡◌, ◌<◌, ℕ, zero, suc, ◌+◌, ◌-◌, ◌*◌, ◌/◌, ◌^◌, ℤ, ◌≤ℤ◌, nat_le, List, [], ◌∷◌, length, map, get_or, replicate, slice_get, Option, Some, None, Result, Ok, Err, if◌then◌else◌}
use Rattle.std.specs.List.{AllZip, AllByRecursion}
use Rattle.exact_algebra.specs.Complex.{Complex, complex_numbers, complex_difference, complex_over}
use Rattle.linear_systems.specs.Linear.{IsSquare, HasOneSolution}
use Rattle.complex_interval.specs.Rectangles.{Rectangle, EnclosesComplex, IsAtLeastSize, add_rectangles, sub_rectangles, mul_rectangles}
pub use Rattle.middle_inverse.specs.Lists.{and_then, each, each_two, greatest}
pub use Rattle.middle_inverse.specs.Inverse.{nought_rectangle, one_rectangle, size_of, unit_row}
use Rattle.middle_inverse.specs.Inverse.{middle_inverse}
use Rattle.middle_inverse.specs.declared.fault.InverseFault.{InverseFault}
use Rattle.middle_inverse.specs.declared.fault.InverseFault.TheVariants.{NoInverse as NoPivot, OutOfRange as NoValue}
use Rattle.certified_inverse.specs.declared.outcome.InverseOutcome.{InverseOutcome}
use Rattle.certified_inverse.specs.declared.outcome.InverseOutcome.TheVariants.{Enclosed, NoInverse, NotContracting, OutOfRange}

-- the number, if it is at most 2^62
abbrev pub in_size : ℕ → Option ℕ
in_size n = if nat_le n (2 ^ 62) then Some n else None

-- f of the value, if there is one
abbrev pub valued : {X : Type 0} → Option X → (X → InverseOutcome) → InverseOutcome
valued None f = OutOfRange
valued (Some x) f = f x

-- f of the number, if there is one of at most 2^62
abbrev pub bounded : Option ℕ → (ℕ → InverseOutcome) → InverseOutcome
bounded o f = valued (and_then o in_size) f

-- ---- products of rows
-- sum + f a
unfoldable pub add_times : ℕ → Rectangle → Rectangle → Rectangle → Option Rectangle
add_times s f sum a = and_then (mul_rectangles s f a) (λ t. add_rectangles sum t)

-- the sums, and on top of them each row times its factor
abbrev pub combination : ℕ → List Rectangle → List Rectangle → List (List Rectangle) → Option (List Rectangle)
combination s sums [] [] = Some sums
combination s sums [] (y ∷ ys) = None
combination s sums (c ∷ cs) [] = None
combination s sums (c ∷ cs) (y ∷ ys) = and_then (each_two (add_times s c) sums y) (λ more. combination s more cs ys)

-- the sum, and on top of it the product of each two entries
abbrev pub sum_products : ℕ → Rectangle → List Rectangle → List Rectangle → Option Rectangle
sum_products s sum [] [] = Some sum
sum_products s sum [] (x ∷ xs) = None
sum_products s sum (c ∷ cs) [] = None
sum_products s sum (c ∷ cs) (x ∷ xs) = and_then (add_times s c sum x) (λ more. sum_products s more cs xs)

-- the rows times a list
abbrev pub rows_times : ℕ → List (List Rectangle) → List Rectangle → Option (List Rectangle)
rows_times s rows xs = each (λ row. sum_products s nought_rectangle row xs) rows

-- ---- theta
-- the unit matrix of rectangles
abbrev pub unit_rectangles : ℕ → ℕ → List (List Rectangle)
unit_rectangles s zero = []
unit_rectangles s (suc n) = (one_rectangle s ∷ replicate n nought_rectangle) ∷ map (λ e. nought_rectangle ∷ e) (unit_rectangles s n)

-- a unit row less the sum of the rows by the factors of a row of C
abbrev pub row_left : ℕ → List (List Rectangle) → List Rectangle → List Rectangle → Option (List Rectangle)
row_left s ys e cs = and_then (combination s (map (λ _. nought_rectangle) e) cs ys) (λ sums. each_two sub_rectangles e sums)

-- the rows of (unit - C·Y)
abbrev pub rows_left : ℕ → List (List Rectangle) → List (List Rectangle) → List (List Rectangle) → Option (List (List Rectangle))
rows_left s es cs ys = each_two (row_left s ys) es cs

-- the sum of the sizes of a row
abbrev pub row_size : List Rectangle → ℕ
row_size [] = 0
row_size (a ∷ row) = size_of a + row_size row

-- the greatest row sum of (unit - C·Y)
abbrev pub theta_of : ℕ → List (List Rectangle) → List (List Rectangle) → Option ℕ
theta_of s cs ys = and_then (rows_left s (unit_rectangles s (length ys)) cs ys) (λ rows. Some (greatest (map row_size rows)))

-- ---- sigma
-- column k
abbrev pub column_of : ℕ → List (List Rectangle) → Option (List Rectangle)
column_of k rows = each (λ row. slice_get row k) rows

-- the unit column k less Y x
abbrev pub column_left : ℕ → ℕ → List (List Rectangle) → List Rectangle → Option (List Rectangle)
column_left s k ys x = and_then (rows_times s ys x) (λ values. each_two sub_rectangles (unit_row (one_rectangle s) nought_rectangle (length ys) k) values)

-- the greatest size of C·(unit column k - Y x)
abbrev pub sigma_of : ℕ → ℕ → List (List Rectangle) → List (List Rectangle) → List Rectangle → Option ℕ
sigma_of s k cs ys x = and_then (column_left s k ys x) (λ left. and_then (rows_times s cs left) (λ moved. Some (greatest (map size_of moved))))

-- a/b rounded up
unfoldable pub ceil_over : ℕ → ℕ → ℕ
ceil_over a b = (a + (b - 1)) / b

-- ---- the whole
-- the value at k and the error, where x is column k of C
abbrev pub enclosed_by : ℕ → ℕ → List Rectangle → ℕ → ℕ → InverseOutcome
enclosed_by s k x theta sigma =
    valued (slice_get x k) (λ value.
    bounded (Some (ceil_over (sigma * 2 ^ s) (2 ^ s - theta))) (λ error.
    Enclosed value.re.low value.im.low error))

-- what the list of rows C in the place of the inverse shows of the rows Y and of column k
abbrev pub certified : ℕ → ℕ → List (List Rectangle) → List (List Rectangle) → InverseOutcome
certified s k cs ys =
    bounded (theta_of s cs ys) (λ theta.
    if nat_le (2 ^ s) theta
    then NotContracting theta
    else valued (column_of k cs) (λ x. bounded (sigma_of s k cs ys x) (λ sigma. enclosed_by s k x theta sigma)))

-- so with the stated inverse of their middle in the place of C, if there is one
abbrev pub by_inverse : ℕ → ℕ → List (List Rectangle) → Result (List (List Rectangle)) InverseFault → InverseOutcome
by_inverse s k ys (Err (NoPivot column)) = NoInverse column
by_inverse s k ys (Err NoValue) = OutOfRange
by_inverse s k ys (Ok cs) = certified s k cs ys

-- the enclosure of the entry at k of the solution of the rows Y for the unit right side at k
abbrev pub enclosure : ℕ → ℕ → List (List Rectangle) → InverseOutcome
enclosure s k ys = by_inverse s k ys (middle_inverse s ys)

-- ---- what it says of exact numbers
-- both parts have their ends in order
pub record IsOrderedRectangle (a : Rectangle) : Type 0 where
  pub re : a.re.low ≤ℤ a.re.high
  pub im : a.im.low ≤ℤ a.im.high

-- n rows of n rectangles
pub record AreRectangles (n : ℕ) (rows : List (List Rectangle)) : Type 0 where
  pub count : length rows ≡ n
  pub ordered : AllByRecursion (λ row. AllByRecursion IsOrderedRectangle row) rows

-- of an exact matrix: exactly one list is a solution of the unit right side at k, and its entry there lies within error/2^scale of (re + j im)/2^scale, in the sum of the sizes of both parts
pub record IsEnclosed (s n k : ℕ) (re im : ℤ) (error : ℕ) (exact : List (List Complex)) : Type 0 where
  pub one : HasOneSolution complex_numbers n exact (unit_row complex_numbers.unit complex_numbers.nought n k)
  pub near : IsAtLeastSize s error (complex_difference (get_or one.solution k complex_numbers.nought) (complex_over re im (2 ^ s)))

-- whatever square list of rectangles stands in the place of the inverse: where the answer is Enclosed, it says this of each exact square matrix that the rows hold
abbrev pub CertificateHolds : ℕ → Type 0
CertificateHolds s =
    (n k : ℕ) (cs ys : List (List Rectangle)) (re im : ℤ) (error : ℕ) (exact : List (List Complex)) → k < n → AreRectangles n cs → certified s k cs ys ≡ Enclosed re im error
    → IsSquare complex_numbers n exact → AllZip (λ row r. AllZip (EnclosesComplex s) row r) ys exact → IsEnclosed s n k re im error exact

-- the same of the enclosure with the stated inverse
abbrev pub EnclosureHolds : ℕ → Type 0
EnclosureHolds s =
    (n k : ℕ) (ys : List (List Rectangle)) (re im : ℤ) (error : ℕ) (exact : List (List Complex)) → k < n → enclosure s k ys ≡ Enclosed re im error
    → IsSquare complex_numbers n exact → AllZip (λ row r. AllZip (EnclosesComplex s) row r) ys exact → IsEnclosed s n k re im error exact

-- what an outcome says of each exact matrix that the rows of n hold: where it is Enclosed, that it has exactly one solution of the unit right side at k, whose entry there lies within the error
abbrev pub HoldsEnclosed : ℕ → ℕ → ℕ → List (List Rectangle) → InverseOutcome → Type 0
HoldsEnclosed s n k ys outcome =
    (re im : ℤ) (error : ℕ) (exact : List (List Complex)) → outcome ≡ Enclosed re im error
    → IsSquare complex_numbers n exact → AllZip (λ row r. AllZip (EnclosesComplex s) row r) ys exact → IsEnclosed s n k re im error exact
