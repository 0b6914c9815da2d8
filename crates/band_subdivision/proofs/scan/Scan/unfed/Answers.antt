use Rattle.net_branch.specs.Exact.{exact_network}
use Rattle.band_subdivision.proofs.UnfedScans.{whole_without_value, live_without_value, if_unfed}
use Rattle.band_subdivision.proofs.scan.Scan.unfed.Goals as goal

pub new-requires-clause-whole : goal.new-requires-clause-whole
new-requires-clause-whole g c = whole_without_value c.in_ok-network.network c.in_ok-network.ensures

pub new-requires-clause-live : goal.new-requires-clause-live
new-requires-clause-live g c = live_without_value (exact_network c.in_ok-network.network) c.in_ok-network.ensures

pub returns : goal.returns
returns g c = if_unfed g.E.Enclosure.SCALE c.args.spec (exact_network c.in_ok-network.network) c.new.result c.in_ok-network.ensures c.new.ensures
