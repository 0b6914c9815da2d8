use Rattle.complex_interval.specs.Rect.{rectangle_of}
use Rattle.net_branch.specs.Exact.{exact_branch}
use Rattle.admittance_box.proofs.FirstTwo.{first_two, no_current_low, no_current_high}
use Rattle.admittance_box.proofs.terminal.with_first_group.Goals as goal

pub returns-in_default : goal.returns-in_default
returns-in_default g c =
    no_current_low g.E.Enclosure.SCALE (g.E.Enclosure.ends c.args.order) c.args.ordering.now c.args.volts.now c.args.owner c.args.node (rectangle_of g.E.Enclosure.ends c.args.sum) (exact_branch c.args.a.low.now) (exact_branch c.args.a.high.now)
    c.args.low.now c.args.high.now c.in_default.len_below

pub returns-in_default-high : goal.returns-in_default-high
returns-in_default-high g c =
    no_current_high g.E.Enclosure.SCALE (g.E.Enclosure.ends c.args.order) c.args.ordering.now c.args.volts.now c.args.owner c.args.node (rectangle_of g.E.Enclosure.ends c.args.sum) (exact_branch c.args.a.low.now) (exact_branch c.args.a.high.now)
    c.args.low.now c.args.high.now c.in-len2-up.len_at_least c.in_default-high.len_below

pub returns : goal.returns
returns g c =
    rw (first_two c.args.low.now c.low_b-item.result c.low_c-item.result c.in-len2-up.len_at_least c.low_b-item.is c.low_c-item.is, first_two c.args.high.now c.high_b-item.result c.high_c-item.result c.in-len2-up-high.len_at_least c.high_b-item.is c.high_c-item.is)
    c.with_group.ensures
