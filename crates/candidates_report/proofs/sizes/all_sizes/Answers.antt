use Rattle.std.proofs.Common.{sym, subst}
use Rattle.candidates_report.proofs.Tried.{AreTried, one_more, fewer, all_tried}
use Rattle.candidates_report.proofs.sizes.all_sizes.Goals as goal

pub sizes-smaller : goal.sizes-smaller
sizes-smaller g c = fewer g.E.Enclosure.SCALE c.sizes.candidates c.next_size.new.self c.in-Some.row c.in-Some.ensures.row c.in-Some.ensures.given

pub sizes-preserved : goal.sizes-preserved
sizes-preserved g c =
    subst (AreTried g.E.Enclosure.SCALE c.args.candidates.now c.next_size.new.self) (sym c.in_ok-keep.ensures)
    (one_more g.E.Enclosure.SCALE c.args.candidates.now c.sizes.candidates c.next_size.new.self c.sizes.rows c.in-Some.row c.in-Some.ensures.row c.in-Some.ensures.given c.sizes.invariant)

pub returns : goal.returns
returns g c = all_tried g.E.Enclosure.SCALE c.args.candidates.now c.sizes.candidates c.sizes.rows c.in_default.ensures.none c.sizes.invariant
