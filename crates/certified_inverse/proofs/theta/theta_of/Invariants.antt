use Rattle.std.proofs.Common.{length, drop}
use Rattle.certified_inverse.specs.Certificate.{each_two, unit_rectangles, row_left, row_size}
use Rattle.certified_inverse.proofs.Greatest.{GreatestTo}
use Rattle.certified_inverse.proofs.theta.theta_of.Given as goal

abbrev pub invariant-loop-i : goal.invariant-loop-i
invariant-loop-i g l =
    let s = g.E.Enclosure.SCALE in
    let units = unit_rectangles s (length l.matrix.rows) in
    GreatestTo row_size (each_two (row_left s l.matrix.rows) units l.inverse.rows) l.theta (each_two (row_left s l.matrix.rows) (drop l.i units) (drop l.i l.inverse.rows))
