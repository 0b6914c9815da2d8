-- The orders of the boxes of a report.
use Rattle.network_theory.specs.Box.{Box}
use Rattle.scan_report.specs.declared.boxes.BoxRow.{BoxRow}

-- from which order to which a box goes
abbrev pub span_of : BoxRow → Box
span_of row = record { lo = row.lo; hi = row.hi }
