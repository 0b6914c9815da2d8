use Rattle.std.proofs.Common.{◌≡◌, refl, ◌+◌, ◌-◌, ◌*◌, ◌++◌, length, drop, get_or, map, sym, ap, subst, ◌∙◌, arith}
use Rattle.std.proofs.lemmas.List.{length-map, length-take-le, map-append, drop_at}
use Rattle.complex_interval.specs.Rect.{rectangle_of}
use Rattle.plain_elimination.specs.Layout.{pivot_row}
use Rattle.plain_elimination.specs.Matrix.{nought_rectangle}
use Rattle.plain_elimination.specs.Rectangles.{rectangles}
use Rattle.plain_elimination.proofs.Left.{cells_behind, first_size, column_done, later_is}
use Rattle.sparse_rows.specs.Listed.{Skips, ZeroAt}
use Rattle.sparse_rows.specs.Sides.{column_of}
use Rattle.sparse_rows.proofs.Columns.{listed_behind, column_zero, row_zero, column_zeros, resized, head_at}
use Rattle.sparse_rows.proofs.reduction.reduce_column.Goals as goal

pub reduce_by-requires : goal.reduce_by-requires
reduce_by-requires g c =
    let rectangle = rectangle_of g.E.Enclosure.ends in
    let size = c.args.size in
    let k = c.args.column in
    let gaps = c.args.gaps.now in
    let cells = c.args.cells.now in
    let parts = c.split_at_mut-done.ensures in
    let l = c.requires.column_in in
    let line = c.cells_from-line.result.now in
    let later = c.split_at_mut-done.result.1.now in
    let width : k + length line ≡ size = first_size k size cells _ _ l c.requires.square parts.front c.cells_from-line.ensures in
    let fits = cells_behind k size l in
    let rest : length later ≡ (size - 1 - k) * size = omega (arith, parts.back_len, c.requires.square) in
    let count : size - 1 - k ≡ length line - 1 = omega arith in
    let eg : c.gaps_from-line_gaps.result.now ≡ pivot_row size k gaps = c.gaps_from-line_gaps.ensures ∙ ap (drop (k * size + k)) c.gaps_up_to-done_gaps.ensures in
    let width_gaps : k + length c.gaps_from-line_gaps.result.now ≡ size = first_size k size gaps _ _ l c.requires.gap_size c.gaps_up_to-done_gaps.ensures c.gaps_from-line_gaps.ensures in
    let head : get_or c.gaps_from-line_gaps.result.now 0 0 ≡ get_or gaps (k * size + k) 0 = ap (λ xs. get_or xs 0 0) eg ∙ head_at gaps size k 0 l in
    let rows = listed_behind (λ r. ZeroAt (map rectangle later) (r * size + k)) gaps size k c.requires.fill l c.requires.gap_size
    (row_zero rectangle gaps size k cells c.split_at_mut-done.result.0.now later line c.requires.fill l c.requires.zeros parts.front parts.back c.cells_from-line.ensures) in
    record {
      pivot = omega arith;
      row_size = omega arith;
      rows = rest ∙ ap (λ n. n * size) count ∙ ap (λ w. (length line - 1) * w) (sym width);
      gap_size = omega arith;
      diagonal = omega (arith, head, c.requires.fill.diagonal k l);
      columns_listed = rw eg (listed_behind _ gaps size k c.requires.fill l c.requires.gap_size
          (column_zero rectangle gaps size k cells c.split_at_mut-done.result.0.now later line c.requires.fill l c.requires.zeros parts.front parts.back c.cells_from-line.ensures));
      rows_listed = rw eg (subst (λ w. Skips (λ r. ZeroAt (map rectangle later) (r * w + k)) (drop 1 (pivot_row size k gaps)) (get_or (pivot_row size k gaps) 0 0 - 1)) (sym width) rows);
    }

pub returns-clause-stated : goal.returns-clause-stated
returns-clause-stated g c =
    let size = c.args.size in
    let k = c.args.column in
    let parts = c.split_at_mut-done.ensures in
    let line = c.cells_from-line.result.now in
    let width : k + length line ≡ size = first_size k size c.args.cells.now _ _ c.requires.column_in c.requires.square parts.front c.cells_from-line.ensures in
    let count : length line - 1 ≡ size - 1 - k = omega arith in
    column_done (rectangles g.E.Enclosure.SCALE) (rectangle_of g.E.Enclosure.ends) c.reduce_by.result k size _ c.args.cells.now _ _ c.reduce_by.new.later _ c.requires.column_in c.requires.square width parts.front parts.back c.cells_from-line.ensures (rw count at c.reduce_by.ensures.stated)

pub returns-clause-zeros : goal.returns-clause-zeros
returns-clause-zeros g c =
    let rectangle = rectangle_of g.E.Enclosure.ends in
    let size = c.args.size in
    let k = c.args.column in
    let cells = c.args.cells.now in
    let parts = c.split_at_mut-done.ensures in
    let l = c.requires.column_in in
    let line = c.cells_from-line.result.now in
    let width : k + length line ≡ size = first_size k size cells _ _ l c.requires.square parts.front c.cells_from-line.ensures in
    let count : length line - 1 ≡ size - 1 - k = omega arith in
    column_zeros rectangle c.args.gaps.now size k cells c.split_at_mut-done.result.0.now c.split_at_mut-done.result.1.now line c.requires.fill l c.requires.zeros parts.front parts.back c.cells_from-line.ensures c.reduce_by.new.later c.requires.square
    (resized _ _ _ _ _ _ _ _ _ refl count width c.reduce_by.ensures.zeros)

pub returns-clause-entries : goal.returns-clause-entries
returns-clause-entries g c =
    let rectangle = rectangle_of g.E.Enclosure.ends in
    let size = c.args.size in
    let k = c.args.column in
    let cells = c.args.cells.now in
    let parts = c.split_at_mut-done.ensures in
    let done = c.split_at_mut-done.result.0.now in
    let new = c.reduce_by.new.later in
    let line = c.cells_from-line.result.now in
    let width : k + length line ≡ size = first_size k size cells _ _ c.requires.column_in c.requires.square parts.front c.cells_from-line.ensures in
    let count : length line - 1 ≡ size - 1 - k = omega arith in
    let fits = cells_behind k size c.requires.column_in in
    let front : length (map rectangle done) ≡ (k + 1) * size = length-map done rectangle ∙ ap length parts.front ∙ length-take-le ((k + 1) * size) cells (omega arith) in
    let behind : drop ((k + 1) * size) (map rectangle (done ++ new)) ≡ map rectangle new = ap (drop ((k + 1) * size)) (map-append rectangle done new) ∙ drop_at (map rectangle done) (map rectangle new) ((k + 1) * size) front in
    let entries = column_of nought_rectangle (size - 1 - k) size k in
    ap entries behind ∙ rw (count, width) at c.reduce_by.ensures.entries ∙ ap entries (later_is rectangle k size cells _ parts.back)
