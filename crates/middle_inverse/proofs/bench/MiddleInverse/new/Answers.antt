use Rattle.std.proofs.Common.{length, map, replicate, sym, ap, ◌∙◌}
use Rattle.std.proofs.lemmas.List.{length-map, length-replicate}
use Rattle.complex_interval.specs.Rect.{rectangle_of}
use Rattle.plain_elimination.specs.Matrix.{Square, nought_rectangle}
use Rattle.middle_inverse.proofs.Wide.{wide_noughts}
use Rattle.middle_inverse.proofs.bench.MiddleInverse.new.Goals as goal

pub invariant_of-result : goal.invariant_of-result
invariant_of-result g c =
    let rectangle = rectangle_of g.E.Enclosure.ends in
    let size = c.args.size in
    let items = c.in_ok-rows.rows.items in
    record {
      few = c.requires;
      points_in = c.in_ok-points.ensures.count;
      points_wide = c.in_ok-points.ensures.wide;
      next_in = c.in_ok-next.ensures;
      rows_in = sym (length-map items (λ r. map rectangle r.items)) ∙ ap length c.in_ok-rows.ensures ∙ length-replicate size (replicate size nought_rectangle);
      rows_wide = wide_noughts (λ r. length r.items) (λ r. map rectangle r.items) size size nought_rectangle items (λ r. length-map r.items rectangle) c.in_ok-rows.ensures;
    }

pub returns : goal.returns
returns g c = ap (λ rows. let m : Square = record { size = c.args.size; rows = rows } in m) c.in_ok-rows.ensures
