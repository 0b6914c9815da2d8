use Rattle.std.proofs.Common.{◌≡◌, take}
use Rattle.study_variants.specs.Outages.{others_in}
use Rattle.study_variants.proofs.outages.outage.Given as goal

abbrev pub invariant-loop-branch : goal.invariant-loop-branch
invariant-loop-branch l = l.branches ≡ others_in l.owner (take l.branch-index l.network.branches)
