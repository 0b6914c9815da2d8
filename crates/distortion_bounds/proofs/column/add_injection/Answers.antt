use Rattle.std.proofs.Common.{sym}
use Rattle.admittance_box.proofs.PairPlaces.{place-below}
use Rattle.distortion_bounds.proofs.column.add_injection.Goals as goal

pub get-requires : goal.get-requires
get-requires g c = rw c.requires.size (place-below c.args.ordering.now c.args.at.now.node.number c.in_ok-place.place (sym c.in_ok-place.ensures))

pub set-requires : goal.set-requires
set-requires g c = rw c.requires.size (place-below c.args.ordering.now c.args.at.now.node.number c.in_ok-place.place (sym c.in_ok-place.ensures))
