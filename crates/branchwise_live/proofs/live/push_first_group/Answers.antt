use Rattle.std.proofs.Common.{◌++◌, ap, map}
use Rattle.std.specs.Option.{option_map}
use Rattle.net_branch.specs.Exact.{exact_branch}
use Rattle.admittance_box.proofs.FirstTwo.{first_two}
use Rattle.branchwise_live.specs.Live.{live_ends}
use Rattle.branchwise_live.proofs.Joining.{no_group_low, no_group_high}
use Rattle.branchwise_live.proofs.live.push_first_group.Goals as goal

pub returns-in_default : goal.returns-in_default
returns-in_default g c =
    ap (option_map (λ more. map (live_ends g.E.Enclosure.ends) c.args.branches.now.items ++ more))
    (no_group_low g.E.Enclosure.SCALE c.args.ordering.now (exact_branch c.args.a.low.now) (exact_branch c.args.a.high.now) c.args.low.now c.args.high.now c.in_default.len_below)

pub returns-in_default-high : goal.returns-in_default-high
returns-in_default-high g c =
    ap (option_map (λ more. map (live_ends g.E.Enclosure.ends) c.args.branches.now.items ++ more))
    (no_group_high g.E.Enclosure.SCALE c.args.ordering.now (exact_branch c.args.a.low.now) (exact_branch c.args.a.high.now) c.args.low.now c.args.high.now c.in-len2-up.len_at_least c.in_default-high.len_below)

pub returns : goal.returns
returns g c =
    rw (first_two c.args.low.now c.low_b-item.result c.low_c-item.result c.in-len2-up.len_at_least c.low_b-item.is c.low_c-item.is, first_two c.args.high.now c.high_b-item.result c.high_c-item.result c.in-len2-up-high.len_at_least c.high_b-item.is c.high_c-item.is)
    c.push_group.ensures
