use Rattle.std.proofs.Common.{◌≡◌, drop, map}
use Rattle.complex_interval.specs.Rect.{rectangle_of}
use Rattle.net_branch.specs.Exact.{exact_branch}
use Rattle.plain_elimination.specs.Matrix.{nought_rectangle}
use Rattle.admittance_box.specs.Current.{with_all}
use Rattle.admittance_box.proofs.terminal.sum_of_branches.Given as goal

abbrev pub invariant-loop-i : goal.invariant-loop-i
invariant-loop-i g l =
    with_all g.E.Enclosure.SCALE (g.E.Enclosure.ends l.order) l.ordering l.volts l.owner l.node (rectangle_of g.E.Enclosure.ends l.sum) (map exact_branch (drop l.i l.low)) (map exact_branch (drop l.i l.high))
    ≡ with_all g.E.Enclosure.SCALE (g.E.Enclosure.ends l.order) l.ordering l.volts l.owner l.node nought_rectangle (map exact_branch l.low) (map exact_branch l.high)
