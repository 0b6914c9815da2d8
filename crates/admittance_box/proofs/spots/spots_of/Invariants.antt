use Rattle.std.proofs.Common.{◌≡◌, ◌++◌, drop, map}
use Rattle.net_branch.specs.Exact.{exact_branch}
use Rattle.admittance_box.specs.Pattern.{branch_spots}
use Rattle.admittance_box.proofs.spots.spots_of.Given as goal

abbrev pub invariant-loop-i : goal.invariant-loop-i
invariant-loop-i l = l.spots.items ++ branch_spots l.ordering (map exact_branch (drop l.i l.branches)) ≡ branch_spots l.ordering (map exact_branch l.branches)
