use Rattle.std.proofs.Common.{sym}
use Rattle.net_branch.specs.Exact.{exact_tap}
use Rattle.admittance_box.specs.Intervals.{placed_ends}
use Rattle.admittance_box.proofs.PairPlaces.{tap_below}
use Rattle.admittance_box.proofs.current.tap_voltage.Goals as goal

pub get-requires : goal.get-requires
get-requires g c = rw c.requires.size (tap_below g.E.Enclosure.SCALE c.args.ordering.now (exact_tap c.args.low) (exact_tap c.args.high) (placed_ends g.E.Enclosure.ends c.in_ok-tap.tap) (sym c.in_ok-tap.ensures))
