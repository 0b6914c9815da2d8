use Rattle.std.proofs.Common.{◌≡◌, ◌∙◌, ap, map, length, arith}
use Rattle.std.proofs.lemmas.List.{length-map}
use Rattle.std.specs.Prelude.{IfOk, OnOk}
use Rattle.net_branch.specs.Exact.{exact_network}
use Rattle.node_injection.specs.Injected.{exact_injection}
use Rattle.harmonic_injection.proofs.Nodes.{few}
use Rattle.limits_report.specs.declared.cell.OrderCells.{OrderCells}
use Rattle.limits_report.specs.Fit.{AreFitCells}
use Rattle.limits_report.proofs.Solving.{some_injection, placed_cells, placed_truth}
use Rattle.limits_report.proofs.table.cells_of.Goals as goal

pub cells_for-requires-clause-some : goal.cells_for-requires-clause-some
cells_for-requires-clause-some g c =
    let injections = c.in_ok-injections.injections in
    omega (
      arith,
      ap length c.as_slice.ensures,
      length-map injections exact_injection,
      ap length c.in_ok-injections.ensures,
      some_injection c.args.study.now c.args.spectrum.now.rows c.args.order c.requires.occurs,
    )

pub cells_for-requires-clause-few : goal.cells_for-requires-clause-few
cells_for-requires-clause-few g c =
    let injections = c.in_ok-injections.injections in
    omega (
      arith,
      ap length c.as_slice.ensures,
      length-map injections exact_injection,
      ap length c.in_ok-injections.ensures,
      few c.args.study.now c.args.spectrum.now.rows c.args.order,
      c.requires.spectrum.few,
    )

pub returns-clause-cells : goal.returns-clause-cells
returns-clause-cells g c =
    placed_cells c.args.study.now c.args.spectrum.now.rows c.args.order (λ (z : OrderCells). IfOk c.cells_for.result (λ cells. cells ≡ z)) g.E.Enclosure.SCALE (exact_network c.args.network.now)
    (map exact_injection c.as_slice.result.now) c.args.sites.now c.requires.scale c.requires.exact (ap (map exact_injection) c.as_slice.ensures ∙ c.in_ok-injections.ensures) c.requires.sites c.cells_for.ensures.cells

pub returns-clause-fit : goal.returns-clause-fit
returns-clause-fit g c =
    placed_cells c.args.study.now c.args.spectrum.now.rows c.args.order (λ (z : OrderCells). OnOk c.cells_for.result (AreFitCells z)) g.E.Enclosure.SCALE (exact_network c.args.network.now)
    (map exact_injection c.as_slice.result.now) c.args.sites.now c.requires.scale c.requires.exact (ap (map exact_injection) c.as_slice.ensures ∙ c.in_ok-injections.ensures) c.requires.sites c.cells_for.ensures.fit

pub returns-clause-truth : goal.returns-clause-truth
returns-clause-truth g c =
    placed_truth c.cells_for.result c.args.study.now c.args.spectrum.now.rows c.args.order g.E.Enclosure.SCALE (exact_network c.args.network.now)
    (map exact_injection c.as_slice.result.now) c.args.sites.now c.requires.scale c.requires.exact (ap (map exact_injection) c.as_slice.ensures ∙ c.in_ok-injections.ensures) c.requires.sites c.cells_for.ensures.truth
