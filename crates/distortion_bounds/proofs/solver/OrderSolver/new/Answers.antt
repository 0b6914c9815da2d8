use Rattle.std.proofs.Common.{◌≡◌, ◌∙◌, length, ap}
use Rattle.std.proofs.lemmas.List.{length-replicate}
use Rattle.net_branch.specs.Exact.{exact_network}
use Rattle.plain_elimination.specs.Matrix.{Square, nought_rectangle}
use Rattle.distortion_bounds.proofs.Solvers.{ready_by, solver_is}
use Rattle.distortion_bounds.proofs.solver.OrderSolver.new.Goals as goal

pub invariant_of-result : goal.invariant_of-result
invariant_of-result g c =
    let a = c.in_ok-assembly.assembly in
    let network = exact_network c.args.network.now in
    let size : c.in_ok-matrix.matrix.size ≡ length a.ordering = ap (λ (m : Square). m.size) c.in_ok-matrix.ensures ∙ c.size.ensures.count in
    let sides : length c.in_ok-column.column ≡ length a.ordering = ap length c.in_ok-column.ensures ∙ length-replicate c.size-2.result nought_rectangle ∙ c.size-2.ensures.count in
    ready_by network c.greatest_live.result a c.in_ok-matrix.matrix c.in_ok-bench.bench c.in_ok-column.column c.requires.whole.exact c.in_ok-assembly.ensures size (rw c.in_ok-bench.ensures c.in_ok-pattern.ensures) sides

pub returns : goal.returns
returns g c = solver_is (exact_network c.args.network.now) c.greatest_live.result c.in_ok-assembly.assembly c.requires.whole.exact c.greatest_live.ensures.value c.in_ok-assembly.ensures
