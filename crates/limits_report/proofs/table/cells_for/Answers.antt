use Rattle.std.proofs.Common.{◌≡◌, ◌∙◌, ap, sym, subst, map, List}
use Rattle.std.specs.Prelude.{IfOk}
use Rattle.net_branch.specs.Exact.{exact_network}
use Rattle.node_injection.specs.Injected.{exact_injection}
use Rattle.limits_report.specs.declared.cell.Cell.{Cell}
use Rattle.limits_report.specs.declared.cell.OrderCells.{OrderCells}
use Rattle.limits_report.proofs.Orders.{whatever}
use Rattle.limits_report.proofs.Solving.{marked, same_unfed, without_squares, unfed_fit, unfed_true}
use Rattle.limits_report.proofs.table.cells_for.Goals as goal

pub returns-then-is_unfed-clause-cells : goal.returns-then-is_unfed-clause-cells
returns-then-is_unfed-clause-cells g c =
    let network = exact_network c.args.network.now in
    let list = map exact_injection c.args.injections.now in
    let marks = marked c.args.network.now c.in_ok-marks.marks.items c.deref.result.now c.requires.whole c.in_ok-marks.ensures c.deref.ensures.value in
    let unfed = sym (same_unfed network c.deref.result.now c.args.injections.now marks) ∙ sym c.is_unfed.ensures ∙ c.if-is_unfed.true in
    let again = marked c.args.network.now c.in_ok-marks.marks.items c.deref-then-is_unfed.result.now c.requires.whole c.in_ok-marks.ensures c.deref-then-is_unfed.ensures.value in
    let same = without_squares g.E.Enclosure.SCALE network c.args.order list c.deref-then-is_unfed.result.now again unfed c.args.sites.now in
    let put : List Cell → OrderCells = λ cells. record { order = c.args.order; cells = cells } in
    subst (λ (z : OrderCells). IfOk c.unfed_cells.result (λ cells. cells ≡ z)) (ap put same) c.unfed_cells.ensures

pub returns-then-is_unfed-clause-fit : goal.returns-then-is_unfed-clause-fit
returns-then-is_unfed-clause-fit g c =
    let network = exact_network c.args.network.now in
    let list = map exact_injection c.args.injections.now in
    let marks = marked c.args.network.now c.in_ok-marks.marks.items c.deref.result.now c.requires.whole c.in_ok-marks.ensures c.deref.ensures.value in
    let unfed = sym (same_unfed network c.deref.result.now c.args.injections.now marks) ∙ sym c.is_unfed.ensures ∙ c.if-is_unfed.true in
    whatever c.unfed_cells.result (unfed_fit g.E.Enclosure.SCALE network c.args.order list c.deref.result.now c.args.sites.now marks unfed c.requires.low c.requires.high)

pub returns-then-is_unfed-clause-truth : goal.returns-then-is_unfed-clause-truth
returns-then-is_unfed-clause-truth g c =
    let network = exact_network c.args.network.now in
    let list = map exact_injection c.args.injections.now in
    let marks = marked c.args.network.now c.in_ok-marks.marks.items c.deref.result.now c.requires.whole c.in_ok-marks.ensures c.deref.ensures.value in
    let unfed = sym (same_unfed network c.deref.result.now c.args.injections.now marks) ∙ sym c.is_unfed.ensures ∙ c.if-is_unfed.true in
    whatever c.unfed_cells.result (unfed_true g.E.Enclosure.SCALE network c.args.order list c.args.sites.now unfed)

pub solved_cells-requires-clause-marks : goal.solved_cells-requires-clause-marks
solved_cells-requires-clause-marks g c =
    marked c.args.network.now c.in_ok-marks.marks.items c.deref-else-is_unfed.result.now c.requires.whole c.in_ok-marks.ensures c.deref-else-is_unfed.ensures.value

pub solved_cells-requires-clause-fed : goal.solved_cells-requires-clause-fed
solved_cells-requires-clause-fed g c =
    let network = exact_network c.args.network.now in
    let marks = marked c.args.network.now c.in_ok-marks.marks.items c.deref.result.now c.requires.whole c.in_ok-marks.ensures c.deref.ensures.value in
    sym (same_unfed network c.deref.result.now c.args.injections.now marks) ∙ sym c.is_unfed.ensures ∙ c.if-is_unfed.false
