use Rattle.std.proofs.Common.{sym, subst}
use Rattle.net_branch.specs.Exact.{exact_network}
use Rattle.band_subdivision.specs.ScanSpec.{IsScanSpec}
use Rattle.study_scans.proofs.Asked.{spec_in_range}
use Rattle.study_scans.proofs.Walks.{pair_of_one}
use Rattle.outages_report.proofs.Walked.{case_walk}
use Rattle.outages_report.proofs.case.walk_without.Goals as goal

pub walk_between-requires-clause-whole_low : goal.walk_between-requires-clause-whole_low
walk_between-requires-clause-whole_low g c = c.in_ok-network.ensures.whole c.scanned_network.ensures.whole

pub walk_between-requires-clause-whole_high : goal.walk_between-requires-clause-whole_high
walk_between-requires-clause-whole_high g c = c.in_ok-network.ensures.whole c.scanned_network.ensures.whole

pub walk_between-requires-clause-pair : goal.walk_between-requires-clause-pair
walk_between-requires-clause-pair g c = pair_of_one c.in_ok-network.network (c.in_ok-network.ensures.whole c.scanned_network.ensures.whole)

pub walk_between-requires-clause-spec : goal.walk_between-requires-clause-spec
walk_between-requires-clause-spec g c = subst IsScanSpec (sym c.spec_of.ensures) (spec_in_range c.args.study.now c.args.scan.now c.requires.study c.requires.scan)

pub returns : goal.returns
returns g c =
    case_walk c.args.study.now c.args.element c.args.scan.now g.E.Enclosure.SCALE c.spec_of.result (exact_network c.in_ok-network.network) (exact_network c.scanned_network.result.now) c.scanned_node.result
    c.walk_between.result c.requires.scale c.spec_of.ensures c.in_ok-network.ensures.exact c.scanned_network.ensures.exact c.scanned_node.ensures c.walk_between.ensures
