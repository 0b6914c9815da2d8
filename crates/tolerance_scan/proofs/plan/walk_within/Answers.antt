use Rattle.std.proofs.Common.{◌≡◌, ◌<◌, ◌∙◌, ℕ, false, true, ap, sym, subst}
use Rattle.net_branch.specs.Exact.{exact_network}
use Rattle.net_branch.specs.declared.network.Network.{Network}
use Rattle.net_branch.specs.Whole.{IsWholeNetwork}
use Rattle.study_networks.specs.Scanned.{scanned_node}
use Rattle.band_subdivision.specs.ScanSpec.{IsScanSpec}
use Rattle.study_scans.proofs.Asked.{spec_in_range}
use Rattle.tolerance_scan.proofs.Hold.{ends_pair, walks_within}
use Rattle.tolerance_scan.proofs.Within.{IsEnd, end_is}
use Rattle.tolerance_scan.proofs.plan.walk_within.Goals as goal

pub walk_between-requires : goal.walk_between-requires
walk_between-requires g c =
    let study = c.args.study.now in
    let scan = c.args.scan.now in
    let low = subst (IsEnd false study scan) (sym c.network_in-from.ensures) (end_is false study c.args.networks.now c.args.low.now scan c.requires.networks c.requires.scan c.requires.low) in
    let high = subst (IsEnd true study scan) (sym c.network_in-to.ensures) (end_is true study c.args.networks.now c.args.high.now scan c.requires.networks c.requires.scan c.requires.high) in
    record {
      whole_low = low.whole;
      whole_high = high.whole;
      pair = ends_pair study c.args.networks.now scan c.network_in-from.result.now c.network_in-to.result.now c.requires.study c.requires.networks c.requires.scan low high;
      inside = subst (λ (n : ℕ). n < c.network_in-from.result.now.nodes) (sym c.scanned_node.ensures) low.inside;
      spec = subst IsScanSpec (sym c.spec_of-spec.ensures) (spec_in_range study scan c.requires.study c.requires.scan);
    }

pub returns : goal.returns
returns g c =
    let study = c.args.study.now in
    let scan = c.args.scan.now in
    let low = subst (IsEnd false study scan) (sym c.network_in-from.ensures) (end_is false study c.args.networks.now c.args.low.now scan c.requires.networks c.requires.scan c.requires.low) in
    let high = subst (IsEnd true study scan) (sym c.network_in-to.ensures) (end_is true study c.args.networks.now c.args.high.now scan c.requires.networks c.requires.scan c.requires.high) in
    walks_within study scan g.E.Enclosure.SCALE c.spec_of-spec.result (exact_network c.network_in-from.result.now) (exact_network c.network_in-to.result.now) c.scanned_node.result c.walk_between.result
    c.requires.scale c.spec_of-spec.ensures low.exact high.exact c.scanned_node.ensures c.walk_between.ensures
