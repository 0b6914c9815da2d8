use Rattle.std.proofs.Common.{◌-◌, Ok, length, sym, ap, ◌∙◌, map}
use Rattle.std.proofs.lemmas.List.{map-append}
use Rattle.middle_inverse.specs.Points.{rectangle_at}
use Rattle.middle_inverse.specs.Inverse.{bind}
use Rattle.middle_inverse.proofs.Steps.{column_apart}
use Rattle.middle_inverse.proofs.Wide.{wide_front, wide_back, wide_both}
use Rattle.middle_inverse.proofs.columns.eliminate_column.Goals as goal

pub returns : goal.returns
returns g c =
    let rectangle = rectangle_at in
    let parts = c.split_at_mut-above.ensures in
    let whole = column_apart (λ r. map rectangle r.items) g.E.Enclosure.SCALE c.args.column c.args.rows.now c.split_at_mut-above.result.0.now c.split_at_mut-above.result.1.now parts.front parts.back in
    record {
      value = ap (λ rows. bind c.step_rest.result (λ _. Ok rows)) (map-append (λ r. map rectangle r.items) c.step_rest.new.above c.step_rest.new.rest) ∙ c.step_rest.ensures.value ∙ sym whole;
      wide = λ w all. wide_both (λ r. length r.items) w c.step_rest.new.above c.step_rest.new.rest
          (c.step_rest.ensures.wide_above w (wide_front (λ r. length r.items) w c.args.rows.now c.split_at_mut-above.result.0.now c.args.column parts.front all))
          (c.step_rest.ensures.wide_rest w (wide_back (λ r. length r.items) w c.args.rows.now c.split_at_mut-above.result.1.now c.args.column parts.back all));
    }

pub step_rest-requires-clause-wide : goal.step_rest-requires-clause-wide
step_rest-requires-clause-wide g c =
    wide_back (λ r. length r.items) (length c.args.next.now - 1) c.args.rows.now c.split_at_mut-above.result.1.now c.args.column c.split_at_mut-above.ensures.back c.requires.wide
