use Rattle.std.proofs.Common.{◌≡◌, ◌+◌, ◌-◌, ◌*◌, ◌++◌, length, get_or, take, drop, map, refl, sym, subst, ap, ap₂, ◌∙◌, arith}
use Rattle.std.specs.Option.{option_map}
use Rattle.std.proofs.lemmas.List.{length-drop, length-map, length-take-le, map-append, drop_at, drop-map, get_or-map}
use Rattle.complex_interval.specs.Rect.{rectangle_of}
use Rattle.plain_elimination.specs.Layout.{pivot_row}
use Rattle.plain_elimination.specs.Matrix.{nought_rectangle}
use Rattle.plain_elimination.specs.Rectangles.{rectangles}
use Rattle.plain_elimination.proofs.Layouts.{row_fits}
use Rattle.plain_elimination.proofs.Left.{cells_behind, first_size, later_is}
use Rattle.sparse_rows.specs.Listed.{Skips, ZeroAt}
use Rattle.sparse_rows.proofs.Columns.{listed_behind, row_zero}
use Rattle.sparse_rows.proofs.SideSteps.{sides_same}
use Rattle.sparse_rows.proofs.solution.solve_sides.Goals as goal

pub eliminate_sides-requires : goal.eliminate_sides-requires
eliminate_sides-requires g c =
    let rectangle = rectangle_of g.E.Enclosure.ends in
    let size = c.args.size in
    let k = c.args.column in
    let gaps = c.args.gaps.now in
    let cells = c.args.cells.now in
    let l = c.requires.column_in in
    let later = c.cells_from-later.result.now in
    let n = length c.split_at_mut-later_right.result.1.now in
    let count : n ≡ size - 1 - k = omega (arith, c.split_at_mut-later_right.ensures.back_len, c.requires.sides) in
    let width : k + 1 + n ≡ size = omega arith in
    let fits = cells_behind k size l in
    let rest : length later ≡ (size - 1 - k) * size = ap length c.cells_from-later.ensures ∙ length-drop ((k + 1) * size) cells ∙ omega (arith, c.requires.square) in
    let eg : c.gaps_from-line_gaps.result.now ≡ pivot_row size k gaps = c.gaps_from-line_gaps.ensures ∙ ap (drop (k * size + k)) c.gaps_up_to-done_gaps.ensures in
    let width_gaps : k + length c.gaps_from-line_gaps.result.now ≡ size = first_size k size gaps _ _ l c.requires.gap_size c.gaps_up_to-done_gaps.ensures c.gaps_from-line_gaps.ensures in
    let behind : length c.gaps_from.result.now ≡ length c.gaps_from-line_gaps.result.now - 1 = ap length c.gaps_from.ensures ∙ length-drop 1 c.gaps_from-line_gaps.result.now in
    let rows = listed_behind (λ r. ZeroAt (map rectangle later) (r * size + k)) gaps size k c.requires.fill l c.requires.gap_size
    (row_zero rectangle gaps size k cells (take ((k + 1) * size) cells) later (drop (k * size + k) (take ((k + 1) * size) cells)) c.requires.fill l c.requires.zeros refl c.cells_from-later.ensures refl) in
    record {
      row_size = omega arith;
      rows = rest ∙ ap₂ (λ m w. m * w) (sym count) (sym width);
      gap_size = omega arith;
      rows_listed = rw (c.gaps_from.ensures, eg) (subst (λ w. Skips (λ r. ZeroAt (map rectangle later) (r * w + k)) (drop 1 (pivot_row size k gaps)) (get_or (pivot_row size k gaps) 0 0 - 1)) (sym width) rows);
    }

pub returns-clause-sides : goal.returns-clause-sides
returns-clause-sides g c =
    let rectangle = rectangle_of g.E.Enclosure.ends in
    let size = c.args.size in
    let k = c.args.column in
    let cells = c.args.cells.now in
    let right = c.args.right.now in
    let parts = c.split_at_mut-later_right.ensures in
    let done = c.split_at_mut-later_right.result.0.now in
    let later_right = c.split_at_mut-later_right.result.1.now in
    let new = c.eliminate_sides.new.right in
    let l = c.requires.column_in in
    let at = row_fits k size size l in
    let count : length later_right ≡ size - 1 - k = omega (arith, parts.back_len, c.requires.sides) in
    let width : k + 1 + length later_right ≡ size = omega arith in
    let front : length (map rectangle done) ≡ k + 1 = length-map done rectangle ∙ ap length parts.front ∙ length-take-le (k + 1) right (omega arith) in
    let left : drop (k + 1) (map rectangle (done ++ new)) ≡ map rectangle new = ap (drop (k + 1)) (map-append rectangle done new) ∙ drop_at (map rectangle done) (map rectangle new) (k + 1) front in
    let pivot : rectangle c.cell-pivot.result ≡ get_or (map rectangle cells) (k * size + k) nought_rectangle = ap rectangle c.cell-pivot.ensures ∙ sym (get_or-map rectangle cells (k * size + k) c.cell-pivot.result nought_rectangle (omega (arith, c.requires.square))) in
    let side : rectangle c.cell-first_right.result ≡ get_or (map rectangle right) k nought_rectangle = ap rectangle c.cell-first_right.ensures ∙ sym (get_or-map rectangle right k c.cell-first_right.result nought_rectangle (omega arith)) in
    let behind : map rectangle later_right ≡ drop (k + 1) (map rectangle right) = ap (map rectangle) parts.back ∙ sym (drop-map rectangle (k + 1) right) in
    ap (λ ys. option_map (λ _. ys) c.eliminate_sides.result) left
    ∙ c.eliminate_sides.ensures
    ∙ sides_same (rectangles g.E.Enclosure.SCALE) nought_rectangle _ _ _ _ _ _ _ _ _ _ _ _ k pivot side count width (later_is rectangle k size cells _ c.cells_from-later.ensures) behind
