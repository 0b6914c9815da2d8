-- Columns of rows.
use Rattle.std.specs.Prelude.{ℕ, zero, suc, List, [], ◌∷◌, get_or, map}
use Rattle.complex_interval.specs.Rectangles.{Rectangle}
use Rattle.plain_elimination.specs.Matrix.{nought_rectangle}

-- of each row the entry in this column, nought where there is none
unfoldable pub column_of : ℕ → List (List Rectangle) → List Rectangle
column_of j rows = map (λ row. get_or row j nought_rectangle) rows

-- so many columns, from this one on
abbrev pub columns_from : ℕ → ℕ → List (List Rectangle) → List (List Rectangle)
columns_from j zero rows = []
columns_from j (suc count) rows = column_of j rows ∷ columns_from (suc j) count rows

-- the first so many
unfoldable pub columns : ℕ → List (List Rectangle) → List (List Rectangle)
columns count rows = columns_from 0 count rows
