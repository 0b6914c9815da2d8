use Rattle.std.proofs.Common.{◌≡◌, drop, map}
use Rattle.complex_interval.specs.Rect.{rectangle_of}
use Rattle.net_branch.specs.Exact.{exact_tap}
use Rattle.plain_elimination.specs.Matrix.{nought_rectangle}
use Rattle.admittance_box.specs.Current.{fold_pairs, with_tap_voltage}
use Rattle.admittance_box.proofs.current.drop_of.Given as goal

abbrev pub invariant-loop-i : goal.invariant-loop-i
invariant-loop-i g l =
    fold_pairs (with_tap_voltage g.E.Enclosure.SCALE l.ordering l.volts) (rectangle_of g.E.Enclosure.ends l.sum) (map exact_tap (drop l.i l.low)) (map exact_tap (drop l.i l.high))
    ≡ fold_pairs (with_tap_voltage g.E.Enclosure.SCALE l.ordering l.volts) nought_rectangle (map exact_tap l.low) (map exact_tap l.high)
