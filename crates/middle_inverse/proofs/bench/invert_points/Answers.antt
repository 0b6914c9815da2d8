use Rattle.std.proofs.Common.{◌≡◌, ◌+◌, Ok, length, drop, map, sym, ap, ◌∙◌, arith}
use Rattle.std.proofs.lemmas.List.{length-map}
use Rattle.middle_inverse.specs.Points.{rectangle_at}
use Rattle.middle_inverse.specs.Inverse.{bind, columns_from, with_units}
use Rattle.middle_inverse.proofs.Behind.{behind}
use Rattle.middle_inverse.proofs.Written.{length-with_units}
use Rattle.middle_inverse.proofs.bench.invert_points.Goals as goal

pub returns : goal.returns
returns g c =
    let rectangle = rectangle_at in
    let s = g.E.Enclosure.SCALE in
    let ys = c.args.matrix.now.rows in
    let n = length ys in
    let size = c.args.matrix.now.size in
    let written = c.write_rows.new.rows in
    let new = c.eliminate_columns.new.rows in
    let count : length written ≡ n = sym (length-map written (λ r. map rectangle r.items)) ∙ ap length c.write_rows.ensures.value ∙ length-with_units s n 0 ys in
    let same : size ≡ n = omega (arith, c.write_rows.auto.rows) in
    let whole = c.eliminate_columns.ensures.value ∙ ap (λ k. columns_from s 0 k (map (λ r. map rectangle r.items) written)) count ∙ ap (columns_from s 0 n) c.write_rows.ensures.value in
    record {
      value =
          sym (behind c.eliminate_columns.result (map (λ r. map rectangle r.items) new) (λ rows. map (λ row. drop size row) rows))
          ∙ ap (λ o. bind o (λ rows. Ok (map (λ row. drop size row) rows))) whole
          ∙ ap (λ k. bind (columns_from s 0 n (with_units s n 0 ys)) (λ rows. Ok (map (λ row. drop k row) rows))) same;
      wide = c.eliminate_columns.ensures.wide (size + size) c.write_rows.ensures.wide;
    }
