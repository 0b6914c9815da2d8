use Rattle.std.proofs.Common.{◌≡◌, length, ap, ◌∙◌, map, arith}
use Rattle.std.specs.Vec.{with_items}
use Rattle.std.proofs.lemmas.List.{length-map, with_items_is}
use Rattle.complex_interval.specs.Rect.{rectangle_of}
use Rattle.plain_elimination.specs.Elimination.{solve}
use Rattle.plain_elimination.specs.Rectangles.{rectangles}
use Rattle.plain_elimination.proofs.Answers.{solutions_held}
use Rattle.sparse_rows.proofs.Sources.{rows_same, zero_source}
use Rattle.sparse_rows.proofs.bench.SparseBench.solve.Goals as goal

pub solve_from-requires-clause-outside : goal.solve_from-requires-clause-outside
solve_from-requires-clause-outside g c =
    let rectangle = rectangle_of g.E.Enclosure.ends in
    rw c.as_slice.ensures.value
    (zero_source c.self.inside.size c.self.inside.places.items c.args.self.now c.args.matrix.now c.self.view_is c.requires.size _ _ _ (map rectangle c.cells.result.now) c.self.invariant c.requires.outside c.cells.ensures.rows (length-map c.cells.result.now rectangle ∙ c.cells.ensures.square))

pub invariant_of-self : goal.invariant_of-self
invariant_of-self g c =
    let rectangle = rectangle_of g.E.Enclosure.ends in
    let inside = c.self.inside in
    let was = c.self.invariant in
    let cells = c.solve_from.new.cells in
    let sides = c.solve_from.new.sides in
    let cells_kept : (with_items inside.cells cells).items ≡ cells = with_items_is inside.cells cells (omega (arith, c.solve_from.auto.cells, ap length c.as_mut_slice.ensures.value, inside.cells.ok.0)) in
    let sides_kept : (with_items inside.sides sides).items ≡ sides = with_items_is inside.sides sides (omega (arith, c.solve_from.auto.sides, ap length c.as_mut_slice-2.ensures.value, inside.sides.ok.0)) in
    rw (cells_kept, sides_kept)
    (record {
      some = was.some;
      few = was.few;
      gap_size = was.gap_size;
      square = omega (arith, length-map cells rectangle, length-map inside.cells.items rectangle, c.solve_from.auto.cells, ap length c.as_mut_slice.ensures.value, was.square);
      side_size = omega (arith, length-map sides rectangle, length-map inside.sides.items rectangle, c.solve_from.auto.sides, ap length c.as_mut_slice-2.ensures.value, was.side_size);
      fill = was.fill;
      zeros = rw c.as_slice.ensures.value at c.solve_from.ensures.zeros;
      covered = was.covered;
    })

pub returns-clause-held : goal.returns-clause-held
returns-clause-held g c =
    let right = c.args.right.now in
    let rows = rows_same c.self.inside.size c.self.inside.places.items c.args.self.now c.args.matrix.now c.self.view_is c.requires.size (map (rectangle_of g.E.Enclosure.ends) c.cells.result.now) c.cells.ensures.rows in
    solutions_held g.E.Enclosure.SCALE c.args.matrix.now right c.solve_from.new.right c.solve_from.result c.requires.sizes (c.solve_from.ensures.stated ∙ ap (λ rs. solve (rectangles g.E.Enclosure.SCALE) rs right) rows)
