use Rattle.std.proofs.Common.{◌∙◌, ap, map, sym}
use Rattle.std.specs.Prelude.{Some}
use Rattle.net_branch.specs.Exact.{exact_branch}
use Rattle.branchwise_live.specs.Live.{live_ends}
use Rattle.branchwise_live.proofs.Joining.{first_alone, first_of_group}
use Rattle.branchwise_live.proofs.live.push_first.Goals as goal

pub returns-in-None : goal.returns-in-None
returns-in-None g c =
    rw (← first_alone g.E.Enclosure.SCALE c.args.ordering.now _ (exact_branch c.args.a.low.now) (exact_branch c.args.a.high.now) (map exact_branch c.args.low.now) (map exact_branch c.args.high.now)
    (map (live_ends g.E.Enclosure.ends) c.args.branches.now.items) (sym c.in-None.ensures))
    c.push_alone.ensures

pub returns-in-Some-eq0 : goal.returns-in-Some-eq0
returns-in-Some-eq0 g c =
    rw (← first_of_group g.E.Enclosure.SCALE c.args.ordering.now _ (exact_branch c.args.a.low.now) (exact_branch c.args.a.high.now) (map exact_branch c.args.low.now) (map exact_branch c.args.high.now)
    (map (live_ends g.E.Enclosure.ends) c.args.branches.now.items) (sym c.in-Some-eq0.ensures ∙ ap Some c.in-Some-eq0.field-0-is ∙ ap Some c.in-Some-eq0.field-0-test))
    c.push_first_group.ensures
