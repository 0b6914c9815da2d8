use Rattle.std.proofs.Common.{◌≡◌, ◌+◌, ◌-◌, Some, None, Ok, length, sym, ap, ◌∙◌, arith}
use Rattle.std.proofs.lemmas.List.{length-drop}
use Rattle.complex_interval.specs.Rect.{rectangle_of}
use Rattle.plain_elimination.specs.Rectangles.{rectangles}
use Rattle.plain_elimination.proofs.Left.{first_size}
use Rattle.plain_elimination.proofs.Systems.{unknown_is, unknown_set}
use Rattle.plain_elimination.proofs.solution.solve_row.Goals as goal

pub unknown_of_line-unknown-requires : goal.unknown_of_line-unknown-requires
unknown_of_line-unknown-requires g c =
    let width : c.args.row + length c.cells_from-line.result.now ≡ c.args.size = first_size c.args.row c.args.size c.args.cells.now _ _ c.requires.row_in c.requires.square c.cells_up_to-done.ensures c.cells_from-line.ensures in
    let behind : length c.cells_from.result.now ≡ length c.args.right.now - (c.args.row + 1) = ap length c.cells_from.ensures ∙ length-drop (c.args.row + 1) c.args.right.now in
    omega (arith, width, behind, c.requires.sides, c.requires.row_in)

pub returns-in-Some-clause-unknown : goal.returns-in-Some-clause-unknown
returns-in-Some-clause-unknown g c =
    let rectangle = rectangle_of g.E.Enclosure.ends in
    let known = unknown_is (rectangles g.E.Enclosure.SCALE) rectangle c.args.cells.now _ c.cells_from-line.result.now c.args.right.now c.cells_from.result.now c.args.size c.args.row c.index-right-row.result (Some (rectangle c.in-Some.x)) (omega arith) c.cells_up_to-done.ensures c.cells_from-line.ensures c.cells_from.ensures c.index-right-row.is c.in-Some.ensures in
    let set = unknown_set (rectangles g.E.Enclosure.SCALE) rectangle c.args.right.now c.args.row c.in-Some.x (omega arith) in
    rw c.set_cell.ensures (ap Ok set ∙ sym known)

pub returns-in-None-clause-unknown : goal.returns-in-None-clause-unknown
returns-in-None-clause-unknown g c =
    let rectangle = rectangle_of g.E.Enclosure.ends in
    let known = unknown_is (rectangles g.E.Enclosure.SCALE) rectangle c.args.cells.now _ c.cells_from-line.result.now c.args.right.now c.cells_from.result.now c.args.size c.args.row c.index-right-row.result None (omega arith) c.cells_up_to-done.ensures c.cells_from-line.ensures c.cells_from.ensures c.index-right-row.is c.in-None.ensures in
    sym known
