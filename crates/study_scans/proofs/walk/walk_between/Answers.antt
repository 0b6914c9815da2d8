use Rattle.net_branch.specs.Exact.{exact_network}
use Rattle.study_scans.proofs.Walks.{marked, unmarked, live_walks, unfed_walks}
use Rattle.study_scans.proofs.walk.walk_between.Goals as goal

pub returns-then-index : goal.returns-then-index
returns-then-index g c =
    let low = c.args.low.now in
    live_walks g.E.Enclosure.SCALE c.args.spec (exact_network low) (exact_network c.args.high.now) c.args.node c.between.result c.requires.whole_low.exact
    (marked low c.in_ok-marks.marks.items c.args.node c.index.result.now c.in_ok-marks.ensures c.requires.inside c.index.ensures c.if-index.true) c.between.ensures

pub returns : goal.returns
returns g c =
    let low = c.args.low.now in
    unfed_walks g.E.Enclosure.SCALE c.args.spec (exact_network low) (exact_network c.args.high.now) c.args.node c.unfed.result
    (unmarked low c.in_ok-marks.marks.items c.args.node c.index.result.now c.requires.whole_low c.in_ok-marks.ensures c.requires.inside c.index.ensures c.if-index.false) c.unfed.ensures
