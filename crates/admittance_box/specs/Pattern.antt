-- Which entries of a network's matrix may be other than zero.
use Rattle.std.specs.Prelude.{ℕ, zero, suc, List, [], ◌∷◌, ◌++◌, length, Option, Some, None, Ok, ◌≡◌}
use Rattle.complex_interval.specs.Rectangles.{Rectangle}
use Rattle.network_theory.specs.Branch.{Tap, Branch}
use Rattle.network_theory.specs.Network.{Network}
use Rattle.plain_elimination.specs.Pattern.{AreInside, IsZeroOutside}
use Rattle.plain_elimination.specs.declared.pattern.Spot.{Spot}
use Rattle.admittance_box.specs.Addends.{place_in_group}
use Rattle.admittance_box.specs.BoxMatrix.{box_matrix}
use Rattle.admittance_box.specs.Places.{place_of, IsNodeOrdering}

-- the spot in this row and this column, if there are both
abbrev pub spot_at : Option ℕ → Option ℕ → List Spot
spot_at (Some row) (Some column) = record { row = row; column = column } ∷ []
spot_at (Some row) None = []
spot_at None column = []

-- the spots of this row, if it is one, with each of these taps
abbrev pub spots_with : List ℕ → Option ℕ → List Tap → List Spot
spots_with ordering row [] = []
spots_with ordering row (u ∷ us) = spot_at row (place_of ordering u.node) ++ spots_with ordering row us

-- the spots of each of these taps with each of those
abbrev pub tap_spots : List ℕ → List Tap → List Tap → List Spot
tap_spots ordering [] us = []
tap_spots ordering (t ∷ ts) us = spots_with ordering (place_of ordering t.node) us ++ tap_spots ordering ts us

-- the spots of these taps with those of each branch of a group
abbrev pub row_spots : List ℕ → List Tap → Branch → Branch → Branch → List Spot
row_spots ordering ts a b c = tap_spots ordering ts a.taps ++ tap_spots ordering ts b.taps ++ tap_spots ordering ts c.taps

-- for each two branches of a group and each tap of the one and of the other
abbrev pub group_spots : List ℕ → Branch → Branch → Branch → List Spot
group_spots ordering a b c = row_spots ordering a.taps a b c ++ row_spots ordering b.taps a b c ++ row_spots ordering c.taps a b c

-- of the group of a branch and the next two
abbrev pub next_spots : List ℕ → Branch → List Branch → List Spot
next_spots ordering a (b ∷ c ∷ bs) = group_spots ordering a b c
next_spots ordering a _ = []

-- of a branch, by its place in a group and the branches after it: a group goes as one, at its first branch
abbrev pub first_spots : List ℕ → Option ℕ → Branch → List Branch → List Spot
first_spots ordering None b bs = tap_spots ordering b.taps b.taps
first_spots ordering (Some zero) b bs = next_spots ordering b bs
first_spots ordering (Some (suc place)) b bs = []

-- for each branch and each two of its taps, or each two of its group's, in order, the entry in the row of the one and the column of the other
abbrev pub branch_spots : List ℕ → List Branch → List Spot
branch_spots ordering [] = []
branch_spots ordering (b ∷ bs) = first_spots ordering (place_in_group b.law) b bs ++ branch_spots ordering bs

-- the matrix of a box is exact zero outside these spots, for a network and for each pair from it on
abbrev pub MatrixIsZeroOutside : Type 0
MatrixIsZeroOutside =
    (s : ℕ) (low high : Network) (ordering : List ℕ) (lo hi : ℕ) (rows : List (List Rectangle)) → box_matrix s low high ordering lo hi ≡ Ok rows
    → IsZeroOutside (branch_spots ordering low.branches) (record { size = length ordering; rows = rows })

-- a pattern of so many rows: the spots of the branches, all inside
pub record IsPattern (ordering : List ℕ) (branches : List Branch) (size : ℕ) (places : List Spot) : Type 0 where
  pub count : size ≡ length ordering
  pub spots : places ≡ branch_spots ordering branches
  pub inside : AreInside size places

-- the pattern of a network that is driven at a live node
pub record IsPatternOf (network : Network) (driven size : ℕ) (places : List Spot) : Type 0 where
  pub ordering : List ℕ
  pub ordered : IsNodeOrdering network driven ordering
  pub pattern : IsPattern ordering network.branches size places
