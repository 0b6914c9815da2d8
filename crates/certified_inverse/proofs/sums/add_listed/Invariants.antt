use Rattle.std.proofs.Common.{◌≤◌, ◌-◌, length}
use Rattle.complex_interval.specs.Rect.{rectangle_of}
use Rattle.certified_inverse.specs.Certificate.{add_times}
use Rattle.middle_inverse.proofs.Each.{EachTwoTo}
use Rattle.certified_inverse.proofs.sums.add_listed.Given as goal

abbrev pub invariant-loop-i : goal.invariant-loop-i
invariant-loop-i g l =
    let rectangle = rectangle_of g.E.Enclosure.ends in
    record {
      in_range : l.i ≤ length l.sums;
      done : EachTwoTo rectangle rectangle (add_times g.E.Enclosure.SCALE (rectangle l.f)) l.initial.sums l.sums l.row l.i;
    }

abbrev pub decreases-loop-i : goal.decreases-loop-i
decreases-loop-i g l = length l.sums - l.i
