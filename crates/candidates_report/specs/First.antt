-- Which sizes of a bank are safe.
use Rattle.std.specs.Prelude.{ℤ, ◌==◌, nat_lt, Bool, not, ◌&&◌, if◌then◌else◌, List, [], ◌∷◌, Option, Some, None}
use Rattle.std.specs.List.{list_any, list_all}
use Rattle.study_variants.specs.declared.size_row.SizeRow.{SizeRow}

-- no box is a peak or undecided
abbrev pub is_safe : SizeRow → Bool
is_safe row = (row.peaks == 0) && (row.undecided == 0)

-- some box is a peak
abbrev pub has_peak : SizeRow → Bool
has_peak row = nat_lt 0 row.peaks

-- the first safe size, or none
abbrev pub first_safe : List SizeRow → Option ℤ
first_safe [] = None
first_safe (row ∷ rows) = if is_safe row then Some row.size else first_safe rows

-- some size is safe
abbrev pub has_first : List SizeRow → Bool
has_first rows = list_any is_safe rows

-- none is, and every size has a peak
abbrev pub is_lost : List SizeRow → Bool
is_lost rows = not (has_first rows) && list_all has_peak rows
