-- How a matrix is filled.
use Rattle.std.specs.Prelude.{◌≡◌, ℕ, ◌<◌, List, All, Result, Ok, Err}
use Rattle.complex_interval.specs.Rectangles.{Rectangle}
use Rattle.admittance_box.specs.declared.fill.Fill.{Fill}
use Rattle.admittance_box.specs.declared.fill.Fill.TheVariants.{Filled, OutOfRange}
use Rattle.admittance_box.specs.declared.group_taps.GroupProducts.{GroupProducts}
use Rattle.admittance_box.specs.declared.group_taps.RowProducts.{RowProducts}
use Rattle.admittance_box.specs.declared.intervals.BranchIntervals.{BranchIntervals}
use Rattle.admittance_box.specs.declared.intervals.TapProduct.{TapProduct}
use Rattle.admittance_box.specs.declared.intervals.BranchIntervals.TheVariants.{Dead, Absent, Joined, Grouped}

-- filled with the rows of a definition's value, or out of range at its branch
abbrev pub FillsAs : Fill → List (List Rectangle) → Result (List (List Rectangle)) ℕ → Type 0
FillsAs Filled rows stated = stated ≡ Ok rows
FillsAs (OutOfRange branch) rows stated = stated ≡ Err branch

-- the places of pairs of taps are below a size
abbrev pub ArePairsWithin : {E : Type 0} → ℕ → List (TapProduct E) → Type 0
ArePairsWithin size pairs = All (λ p. (p.row < size) × (p.column < size)) pairs

-- so in a row of a group, and in each
pub record IsRowWithin {E : Type 0} (size : ℕ) (row : RowProducts E) : Type 0 where
  pub first : ArePairsWithin size row.first.items
  pub second : ArePairsWithin size row.second.items
  pub third : ArePairsWithin size row.third.items

pub record AreRowsWithin {E : Type 0} (size : ℕ) (products : GroupProducts E) : Type 0 where
  pub first : IsRowWithin size products.first
  pub second : IsRowWithin size products.second
  pub third : IsRowWithin size products.third

-- so in what a branch adds
abbrev pub IsWithin : {E : Type 0} → ℕ → BranchIntervals E → Type 0
IsWithin size Dead = Unit {0}
IsWithin size Absent = Unit {0}
IsWithin size (Joined law pairs) = ArePairsWithin size pairs.items
IsWithin size (Grouped group) = AreRowsWithin size group.value.products
