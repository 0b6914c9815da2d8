use Rattle.std.proofs.Common.{◌≡◌, List, Ok, length, map, ap, ◌∙◌, sym, arith}
use Rattle.std.specs.Vec.{with_items}
use Rattle.std.proofs.lemmas.List.{with_items_is}
use Rattle.complex_interval.specs.Rectangles.{Rectangle}
use Rattle.complex_interval.specs.Rect.{rectangle_of}
use Rattle.plain_elimination.specs.Elimination.{bind}
use Rattle.plain_elimination.specs.Matrix.{Square}
use Rattle.plain_elimination.proofs.Answers.{solutions_held}
use Rattle.plain_elimination.proofs.solution.solve.Goals as goal

pub returns-clause-held : goal.returns-clause-held
returns-clause-held g c =
    let rectangle = rectangle_of g.E.Enclosure.ends in
    let size = ap (λ (m : Square). m.size) c.matrix.view_is in
    let sides = ap (λ (xs : List Rectangle). length xs) c.right.view_is in
    let cells = c.right.inside.cells in
    let new = c.solve_cells.new.right in
    let kept : (with_items cells new).items ≡ new = with_items_is cells new (omega (arith, c.solve_cells.auto.right, ap length c.as_mut_slice-2.ensures.value, cells.ok.0)) in
    let solved = rw (c.as_mut_slice.ensures.value, c.as_mut_slice-2.ensures.value) at c.solve_cells.ensures in
    rw (← c.matrix.view_is, ← c.right.view_is)
    (solutions_held g.E.Enclosure.SCALE _ (map rectangle cells.items) (map rectangle (with_items cells new).items) c.solve_cells.result (sides ∙ c.requires.sizes ∙ sym size) (ap (λ ys. bind c.solve_cells.result (λ _. Ok (map rectangle ys))) kept ∙ solved))
