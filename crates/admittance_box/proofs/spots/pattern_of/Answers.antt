use Rattle.std.proofs.Common.{refl, map}
use Rattle.net_branch.specs.Exact.{exact_branch}
use Rattle.admittance_box.proofs.InsidePattern.{branches_inside}
use Rattle.admittance_box.proofs.spots.pattern_of.Goals as goal

pub returns : goal.returns
returns c = record {
  count = refl;
  spots = c.in_ok-places.ensures;
  inside = rw c.in_ok-places.ensures (branches_inside c.args.ordering.now (map exact_branch c.args.branches.now));
}
