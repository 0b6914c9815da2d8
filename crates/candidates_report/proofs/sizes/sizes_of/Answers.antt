use Rattle.std.proofs.Common.{◌∙◌, sym, subst}
use Rattle.net_branch.specs.Exact.{exact_network}
use Rattle.network_theory.specs.Live.{Live}
use Rattle.network_theory.specs.Network.{Network}
use Rattle.band_subdivision.specs.ScanSpec.{IsScanSpec}
use Rattle.study_scans.proofs.Asked.{spec_in_range}
use Rattle.candidates_report.proofs.Listed.{all_above}
use Rattle.candidates_report.proofs.Scanned.{kept_is, bus_is_live, tried_sizes}
use Rattle.candidates_report.proofs.sizes.sizes_of.Goals as goal

pub new-requires-clause-live : goal.new-requires-clause-live
new-requires-clause-live g c =
    let study = c.args.study.now in
    let scan = c.args.scan.now in
    subst (λ (n : Network). Live n scan.bus) (sym (c.scanned_network-network.ensures.exact ∙ kept_is study scan c.requires.scan c.requires.positive))
    (bus_is_live study scan c.requires.live c.requires.scan c.requires.positive)

pub new-requires-clause-spec : goal.new-requires-clause-spec
new-requires-clause-spec g c = subst IsScanSpec (sym c.spec_of.ensures) (spec_in_range c.args.study.now c.args.scan.now c.requires.study c.requires.scan)

pub new-requires-clause-sizes : goal.new-requires-clause-sizes
new-requires-clause-sizes g c = all_above c.args.sizes.now c.requires.sizes

pub returns : goal.returns
returns g c =
    let study = c.args.study.now in
    let scan = c.args.scan.now in
    let network = c.scanned_network-network.result.now in
    tried_sizes study scan g.E.Enclosure.SCALE (exact_network network) c.spec_of.result c.args.sizes.now c.in_ok-candidates.candidates c.all_sizes.result c.requires.scale
    (c.scanned_network-network.ensures.exact ∙ kept_is study scan c.requires.scan c.requires.positive) c.spec_of.ensures c.scanned_network-network.ensures.whole.exact c.in_ok-candidates.ensures c.all_sizes.ensures
