use Rattle.std.proofs.Common.{◌≡◌, ◌++◌, drop, map}
use Rattle.net_branch.specs.Exact.{exact_branch}
use Rattle.admittance_box.specs.Addends.{addends_between}
use Rattle.admittance_box.specs.Intervals.{addend_of}
use Rattle.admittance_box.proofs.branches.branches_between.Given as goal

abbrev pub invariant-loop-i : goal.invariant-loop-i
invariant-loop-i g l =
    addends_between g.E.Enclosure.SCALE l.ordering (map exact_branch l.low) (map exact_branch l.high)
    ≡ map (addend_of g.E.Enclosure.ends) l.branches.items ++ addends_between g.E.Enclosure.SCALE l.ordering (map exact_branch (drop l.i l.low)) (map exact_branch (drop l.i l.high))
