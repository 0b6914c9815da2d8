use Rattle.std.proofs.Common.{◌≡◌, ◌<◌, List, ap, sym, subst, arith}
use Rattle.std.specs.List.{AllByRecursion}
use Rattle.net_branch.specs.Exact.{exact_network}
use Rattle.sequence_network.proofs.Liveness.{buses_within}
use Rattle.study_model.specs.declared.records.ScanItem.{ScanItem}
use Rattle.study_model.specs.declared.words.Sequence.TheVariants.{Zero}
use Rattle.outages_report.proofs.Lives.{scans_within}
use Rattle.outages_report.proofs.floating.zero_is_dead.Goals as goal

pub some_scan_is_dead-requires-clause-inside : goal.some_scan_is_dead-requires-clause-inside
some_scan_is_dead-requires-clause-inside c =
    let zero = c.args.zero.now in
    let within = buses_within c.args.study.now Zero (exact_network zero) c.requires.zero.exact c.requires.zero.whole.exact.buses in
    let nodes : c.in_ok-rest.rest.nodes ≡ zero.nodes = ap (λ n. n.nodes) c.in_ok-rest.ensures.branches in
    subst (λ (l : List ScanItem). AllByRecursion (λ scan. scan.bus < c.in_ok-rest.rest.nodes) l) (sym c.as_slice.ensures)
    (scans_within c.args.study.now c.in_ok-rest.rest.nodes c.requires.study (omega (arith, within, nodes)))

pub some_node_is_dead-requires-clause-inside : goal.some_node_is_dead-requires-clause-inside
some_node_is_dead-requires-clause-inside c =
    let zero = c.args.zero.now in
    let within = buses_within c.args.study.now Zero (exact_network zero) c.requires.zero.exact c.requires.zero.whole.exact.buses in
    let nodes : c.in_ok-rest.rest.nodes ≡ zero.nodes = ap (λ n. n.nodes) c.in_ok-rest.ensures.branches in
    omega (arith, within, nodes, c.len-buses.ensures)
