-- What a branch adds, as the program holds it.
use Rattle.std.specs.Prelude.{map}
use Rattle.complex_interval.specs.Ends.{Ends}
use Rattle.admittance_box.specs.declared.group_taps.GroupProducts.{GroupProducts}
use Rattle.admittance_box.specs.declared.group_taps.RowProducts.{RowProducts}
use Rattle.admittance_box.specs.declared.intervals.LawIntervals.{LawIntervals}
use Rattle.admittance_box.specs.declared.intervals.LawIntervals.TheVariants.{Series as SeriesIntervals, Shunt as ShuntIntervals}
use Rattle.admittance_box.specs.declared.intervals.PlacedTap.{PlacedTap}
use Rattle.admittance_box.specs.declared.intervals.TapProduct.{TapProduct}
use Rattle.admittance_box.specs.declared.intervals.BranchIntervals.{BranchIntervals}
use Rattle.admittance_box.specs.declared.intervals.BranchIntervals.TheVariants.{Dead as DeadIntervals, Absent as AbsentIntervals, Joined as JoinedIntervals, Grouped as GroupedIntervals}
use Rattle.admittance_box.specs.Addends.{LawEnds, OfSeries, OfShunt, PlacedTap as PlacedEnds, TapPair, PairRow, PairRows, Addend, Dead, Absent, Joined, Grouped}
use Rattle.admittance_box.specs.Groups.{coupling_ends}
use Rattle.admittance_box.specs.Series.{series_ends}

-- the ends of a law
abbrev pub law_ends : {E : Type 0} → (E → Ends) → LawIntervals E → LawEnds
law_ends ends (SeriesIntervals p) = OfSeries (series_ends ends p)
law_ends ends (ShuntIntervals b) = OfShunt (ends b)

-- the ends of a placed tap
abbrev pub placed_ends : {E : Type 0} → (E → Ends) → PlacedTap E → PlacedEnds
placed_ends ends t = record { place = t.place; ratio = ends t.ratio }

-- the ends of a pair of taps
abbrev pub pair_ends : {E : Type 0} → (E → Ends) → TapProduct E → TapPair
pair_ends ends p = record { row = p.row; column = p.column; factor = ends p.factor }

-- the ends of the pairs of one branch's taps with those of its group
abbrev pub row_ends : {E : Type 0} → (E → Ends) → RowProducts E → PairRow
row_ends ends row = record { first = map (pair_ends ends) row.first.items; second = map (pair_ends ends) row.second.items; third = map (pair_ends ends) row.third.items }

-- so for each branch of the group
abbrev pub rows_ends : {E : Type 0} → (E → Ends) → GroupProducts E → PairRows
rows_ends ends p = record { first = row_ends ends p.first; second = row_ends ends p.second; third = row_ends ends p.third }

-- the ends of what a branch adds
abbrev pub addend_of : {E : Type 0} → (E → Ends) → BranchIntervals E → Addend
addend_of ends DeadIntervals = Dead
addend_of ends AbsentIntervals = Absent
addend_of ends (JoinedIntervals law pairs) = Joined (law_ends ends law) (map (pair_ends ends) pairs.items)
addend_of ends (GroupedIntervals group) = Grouped (coupling_ends ends group.value.values) (rows_ends ends group.value.products)
