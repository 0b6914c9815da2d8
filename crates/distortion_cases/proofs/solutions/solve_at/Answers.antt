use Rattle.std.proofs.Common.{[]}
use Rattle.std.proofs.lemmas.List.Elements.{All-nil, All-cons}
use Rattle.network_theory.specs.Live.{Live}
use Rattle.node_injection.specs.declared.injection.NodeInjection.{NodeInjection}
use Rattle.distortion_cases.proofs.solutions.solve_at.Goals as goal

pub solve-requires-clause-live : goal.solve-requires-clause-live
solve-requires-clause-live c =
    let P : NodeInjection → Type 0 = λ at. Live c.args.solver.now.network at.node.number in
    All-cons P (record { node = c.args.node; re = c.args.re; im = _ }) [] c.requires (All-nil P)
