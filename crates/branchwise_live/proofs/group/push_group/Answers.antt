use Rattle.std.proofs.Common.{ap, map, sym}
use Rattle.net_branch.specs.Exact.{exact_branch}
use Rattle.branchwise_live.specs.Live.{live_ends}
use Rattle.branchwise_live.proofs.Joining.{after, group_live}
use Rattle.branchwise_live.proofs.group.push_group.Goals as goal

pub returns : goal.returns
returns g c =
    rw (← ap (after (map (live_ends g.E.Enclosure.ends) c.args.branches.now.items))
    (group_live g.E.Enclosure.SCALE c.args.ordering.now (exact_branch c.args.a.low.now) (exact_branch c.args.b.low.now) (exact_branch c.args.c.low.now) (exact_branch c.args.a.high.now) (exact_branch c.args.b.high.now) (exact_branch c.args.c.high.now)
    (sym c.if-not-is_live.ensures)))
    c.push_live_group.ensures
