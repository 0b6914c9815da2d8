-- How many boxes are of each kind.
use Rattle.std.specs.Prelude.{ℤ, ◌+◌, List}
use Rattle.scan_report.specs.declared.boxes.Kind.{Kind}
use Rattle.scan_report.specs.declared.boxes.Kind.TheVariants.{Cleared, Peak, Undecided}
use Rattle.scan_report.specs.declared.boxes.BoxRow.{BoxRow}
use Rattle.study_scans.specs.Regions.{is_cleared, is_peak, is_undecided, count_of}
use Rattle.study_variants.specs.declared.size_row.SizeRow.{SizeRow}

-- a size with the counts of these boxes
abbrev pub row_of_boxes : ℤ → List BoxRow → SizeRow
row_of_boxes size boxes = record { size = size; cleared = count_of is_cleared boxes; peaks = count_of is_peak boxes; undecided = count_of is_undecided boxes }

-- and with one box more
abbrev pub with_kind : Kind → SizeRow → SizeRow
with_kind Cleared row = record row { cleared = row.cleared + 1 }
with_kind (Peak at ohms) row = record row { peaks = row.peaks + 1 }
with_kind Undecided row = record row { undecided = row.undecided + 1 }
