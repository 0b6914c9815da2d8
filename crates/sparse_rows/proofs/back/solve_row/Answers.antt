use Rattle.std.proofs.Common.{◌≡◌, ◌+◌, ◌-◌, ◌*◌, Some, None, Ok, length, get_or, drop, map, refl, sym, ap, ◌∙◌, arith}
use Rattle.std.proofs.lemmas.List.{length-drop}
use Rattle.complex_interval.specs.Rect.{rectangle_of}
use Rattle.plain_elimination.specs.Layout.{pivot_row}
use Rattle.plain_elimination.specs.Rectangles.{rectangles}
use Rattle.plain_elimination.proofs.Left.{first_size}
use Rattle.plain_elimination.proofs.Systems.{unknown_is, unknown_set}
use Rattle.sparse_rows.specs.Listed.{ZeroAt}
use Rattle.sparse_rows.proofs.Columns.{listed_behind, column_zero, head_at}
use Rattle.sparse_rows.proofs.back.solve_row.Goals as goal

pub unknown_of_line-unknown-requires : goal.unknown_of_line-unknown-requires
unknown_of_line-unknown-requires g c =
    let rectangle = rectangle_of g.E.Enclosure.ends in
    let size = c.args.size in
    let k = c.args.row in
    let gaps = c.args.gaps.now in
    let cells = c.args.cells.now in
    let l = c.requires.row_in in
    let line = c.cells_from-line.result.now in
    let width : k + length line ≡ size = first_size k size cells _ _ l c.requires.square c.cells_up_to-done.ensures c.cells_from-line.ensures in
    let behind : length c.cells_from.result.now ≡ length c.args.right.now - (k + 1) = ap length c.cells_from.ensures ∙ length-drop (k + 1) c.args.right.now in
    let eg : c.gaps_from-line_gaps.result.now ≡ pivot_row size k gaps = c.gaps_from-line_gaps.ensures ∙ ap (drop (k * size + k)) c.gaps_up_to-done_gaps.ensures in
    let width_gaps : k + length c.gaps_from-line_gaps.result.now ≡ size = first_size k size gaps _ _ l c.requires.gap_size c.gaps_up_to-done_gaps.ensures c.gaps_from-line_gaps.ensures in
    let head : get_or c.gaps_from-line_gaps.result.now 0 0 ≡ get_or gaps (k * size + k) 0 = ap (λ xs. get_or xs 0 0) eg ∙ head_at gaps size k 0 l in
    record {
      sizes = omega (arith, width, behind, c.requires.sides, c.requires.row_in);
      gap_size = omega arith;
      few = omega arith;
      diagonal = omega (arith, head, c.requires.fill.diagonal k l);
      listed = rw eg (listed_behind (ZeroAt (map rectangle (drop 1 line))) gaps size k c.requires.fill l c.requires.gap_size
          (column_zero rectangle gaps size k cells c.cells_up_to-done.result.now (drop ((k + 1) * size) cells) line c.requires.fill l c.requires.zeros c.cells_up_to-done.ensures refl c.cells_from-line.ensures));
    }

pub returns-in-Some-clause-unknown : goal.returns-in-Some-clause-unknown
returns-in-Some-clause-unknown g c =
    let rectangle = rectangle_of g.E.Enclosure.ends in
    let known = unknown_is (rectangles g.E.Enclosure.SCALE) rectangle c.args.cells.now _ c.cells_from-line.result.now c.args.right.now c.cells_from.result.now c.args.size c.args.row c.index-right-row.result (Some (rectangle c.in-Some.x)) (omega arith) c.cells_up_to-done.ensures c.cells_from-line.ensures c.cells_from.ensures c.index-right-row.is c.in-Some.ensures in
    let set = unknown_set (rectangles g.E.Enclosure.SCALE) rectangle c.args.right.now c.args.row c.in-Some.x (omega arith) in
    rw c.set_cell.ensures (ap Ok set ∙ sym known)

pub returns-in-None-clause-unknown : goal.returns-in-None-clause-unknown
returns-in-None-clause-unknown g c =
    let rectangle = rectangle_of g.E.Enclosure.ends in
    let known = unknown_is (rectangles g.E.Enclosure.SCALE) rectangle c.args.cells.now _ c.cells_from-line.result.now c.args.right.now c.cells_from.result.now c.args.size c.args.row c.index-right-row.result None (omega arith) c.cells_up_to-done.ensures c.cells_from-line.ensures c.cells_from.ensures c.index-right-row.is c.in-None.ensures in
    sym known
