use Rattle.std.proofs.Common.{ap, map, arith}
use Rattle.std.proofs.lemmas.List.{length-map}
use Rattle.net_branch.specs.Exact.{exact_network}
use Rattle.node_injection.specs.Injected.{exact_injection}
use Rattle.limits_report.proofs.Solving.{first_live, all_live, solved_order}
use Rattle.limits_report.proofs.table.solved_cells.Goals as goal

pub new-requires-clause-some : goal.new-requires-clause-some
new-requires-clause-some g c =
    let list = map exact_injection c.args.injections.now in
    first_live (exact_network c.args.network.now) list c.requires.whole.exact (omega (arith, length-map c.args.injections.now exact_injection, c.requires.some)) c.requires.fed

pub solve-answer-requires-clause-live : goal.solve-answer-requires-clause-live
solve-answer-requires-clause-live g c =
    let network = exact_network c.args.network.now in
    all_live network c.in_ok-solver.solver.network c.args.injections.now c.requires.whole.exact c.requires.fed (ap (λ s. s.network) c.in_ok-solver.ensures)

pub returns-clause-truth : goal.returns-clause-truth
returns-clause-truth g c =
    solved_order _ (exact_network c.args.network.now) c.args.order (map exact_injection c.args.injections.now) c.args.sites.now c.in_ok-solver.solver c.solve-answer.new.self c.solve-answer.result
    c.requires.fed c.in_ok-solver.ensures c.solve-answer.ensures.solution c.solve-answer.ensures.answer c.solve-answer.ensures.truth c.in_ok-push_cells.ensures.truth
