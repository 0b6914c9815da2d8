use Rattle.middle_inverse.specs.Points.{rectangle_at}
use Rattle.middle_inverse.specs.Inverse.{point_quotient}
use Rattle.middle_inverse.proofs.Each.{EachTo}
use Rattle.middle_inverse.proofs.rows.divide_row.Given as goal

abbrev pub invariant-loop-i : goal.invariant-loop-i
invariant-loop-i g l =
    let rectangle = rectangle_at in
    EachTo rectangle (λ a. point_quotient g.E.Enclosure.SCALE a (rectangle l.pivot)) l.initial.row l.row l.i
