-- The boxes that a walk has still to give.
use Rattle.std.specs.Prelude.{List, [], ◌∷◌, ◌++◌}
use Rattle.band_subdivision.specs.Boxes.{BoxTest, Widths, boxes_of}
use Rattle.band_subdivision.specs.Stack.{Band}
use Rattle.scan_report.specs.declared.boxes.BoxRow.{BoxRow}

-- the boxes of each band, in order
abbrev pub boxes_left : BoxTest → Widths → List Band → List BoxRow
boxes_left test widths [] = []
boxes_left test widths (b ∷ bs) = boxes_of test widths b.lo b.hi ++ boxes_left test widths bs
