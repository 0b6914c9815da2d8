-- What a matrix C in the place of the inverse makes of the drops: bounds of sizes, each at most 2^62. Columns and rows count from 0.
use Rattle.std.specs.Prelude.{ℕ, List, [], ◌∷◌, length, slice_get, Option, Some}
use Rattle.complex_interval.specs.Rectangles.{Rectangle, add_rectangles, scale_rectangle}
use Rattle.plain_elimination.specs.Matrix.{nought_rectangle}
use Rattle.middle_inverse.specs.Lists.{each, each_two}
use Rattle.middle_inverse.specs.Inverse.{size_of}
use Rattle.certified_inverse.specs.Certificate.{in_size, unit_rectangles, row_left}
use Rattle.admittance_box.specs.Addends.{PlacedTap}
use Rattle.admittance_box.specs.Steps.{◌>>=◌}
use Rattle.branchwise_test.specs.Drops.{DropEnds}

-- the sum, and on top of it the entry at the tap's place times the tap's ratio
abbrev pub with_tap : ℕ → Rectangle → PlacedTap → List Rectangle → Option Rectangle
with_tap s sum t xs = do
  x ← slice_get xs t.place
  term ← scale_rectangle s x t.ratio
  add_rectangles sum term

-- so for each tap
abbrev pub drop_from : ℕ → Rectangle → List PlacedTap → List Rectangle → Option Rectangle
drop_from s sum [] xs = Some sum
drop_from s sum (t ∷ taps) xs = with_tap s sum t xs >>= (λ more. drop_from s more taps xs)

-- the drop of these taps where the nodes have these voltages
abbrev pub drop_over : ℕ → List PlacedTap → List Rectangle → Option Rectangle
drop_over s taps xs = drop_from s nought_rectangle taps xs

-- by C, the voltages of all nodes where the current 1 flows in through these taps
abbrev pub voltages : ℕ → List (List Rectangle) → List PlacedTap → Option (List Rectangle)
voltages s cs taps = each (λ row. drop_over s taps row) cs

-- so through the taps of each drop
abbrev pub all_voltages : ℕ → List (List Rectangle) → List DropEnds → Option (List (List Rectangle))
all_voltages s cs drops = each (λ d. voltages s cs d.taps) drops

-- the size of a rectangle, if it is at most 2^62
abbrev pub kept_size : Rectangle → Option ℕ
kept_size a = in_size (size_of a)

-- of a row of the unit matrix less the rows P, each times its factor of a row of C: the sizes of the entries
abbrev pub left_row : ℕ → List (List Rectangle) → List Rectangle → List Rectangle → Option (List ℕ)
left_row s ps unit factors = row_left s ps unit factors >>= each kept_size

-- the sizes of the entries of (unit - C·P)
abbrev pub left_sizes : ℕ → List (List Rectangle) → List (List Rectangle) → Option (List (List ℕ))
left_sizes s cs ps = each_two (left_row s ps) (unit_rectangles s (length ps)) cs

-- the size of the drop of these taps at these voltages, and at each list of voltages
abbrev pub drop_size : ℕ → List PlacedTap → List Rectangle → Option ℕ
drop_size s taps v = drop_over s taps v >>= kept_size

abbrev pub drop_sizes : ℕ → List PlacedTap → List (List Rectangle) → Option (List ℕ)
drop_sizes s taps vs = each (drop_size s taps) vs

-- bounds of sizes: of the entries of (unit - C·P); of each drop where the current 1 flows in through each; and of the rests
pub record Bounds : Type 0 where
  pub left : List (List ℕ)
  pub transfers : List (List ℕ)
  pub rests : List ℕ

abbrev pub bounds_of : ℕ → List DropEnds → List (List Rectangle) → List (List Rectangle) → List (List Rectangle) → Option Bounds
bounds_of s drops ps cs vs = do
  left ← left_sizes s cs ps
  transfers ← each (λ d. drop_sizes s d.taps vs) drops
  rests ← each (λ d. kept_size d.rest) drops
  Some (record { left = left; transfers = transfers; rests = rests })
