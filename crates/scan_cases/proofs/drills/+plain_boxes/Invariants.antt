use Rattle.std.proofs.Common.{◌-◌}
use Rattle.scan_cases.proofs.drills.+plain_boxes.Given as goal

abbrev pub decreases-plain_boxes : goal.decreases-plain_boxes
decreases-plain_boxes l = l.hi - l.lo
