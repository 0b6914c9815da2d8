use Rattle.std.proofs.Common.{◌≡◌, drop, map}
use Rattle.complex_interval.specs.Rect.{rectangle_of}
use Rattle.net_branch.specs.Exact.{exact_tap}
use Rattle.admittance_box.specs.Current.{fold_pairs, with_tap_current}
use Rattle.admittance_box.proofs.current.with_leaving.Given as goal

abbrev pub invariant-loop-i : goal.invariant-loop-i
invariant-loop-i g l =
    fold_pairs (with_tap_current g.E.Enclosure.SCALE l.node (rectangle_of g.E.Enclosure.ends l.current)) (rectangle_of g.E.Enclosure.ends l.sum) (map exact_tap (drop l.i l.low)) (map exact_tap (drop l.i l.high))
    ≡ fold_pairs (with_tap_current g.E.Enclosure.SCALE l.node (rectangle_of g.E.Enclosure.ends l.current)) (rectangle_of g.E.Enclosure.ends l.initial.sum) (map exact_tap l.low) (map exact_tap l.high)
