use Rattle.std.proofs.Common.{◌-◌, ◌∙◌, map, length}
use Rattle.middle_inverse.specs.Points.{rectangle_at}
use Rattle.middle_inverse.proofs.Steps.{pivot_found}
use Rattle.middle_inverse.proofs.Wide.{wide_swap}
use Rattle.middle_inverse.proofs.columns.step_rest.Goals as goal

pub returns : goal.returns
returns g c =
    let rectangle = rectangle_at in
    record {
      value = c.step_first.ensures.value ∙ pivot_found (λ r. map rectangle r.items) g.E.Enclosure.SCALE c.args.column c.pivot_place-place.result (map (λ r. map rectangle r.items) c.args.above.now) c.args.rest.now c.swap.new.self c.pivot_place-place.ensures.place c.requires.some c.pivot_place-place.ensures.place_in c.swap.ensures.after;
      wide_above = c.step_first.ensures.wide_above;
      wide_rest = λ w all. c.step_first.ensures.wide_rest w (wide_swap (λ r. length r.items) w c.args.rest.now c.swap.new.self 0 c.pivot_place-place.result c.requires.some c.pivot_place-place.ensures.place_in c.swap.ensures.after all);
    }

pub step_first-requires-clause-wide : goal.step_first-requires-clause-wide
step_first-requires-clause-wide g c =
    wide_swap (λ r. length r.items) (length c.args.next.now - 1) c.args.rest.now c.swap.new.self 0 c.pivot_place-place.result c.requires.some c.pivot_place-place.ensures.place_in c.swap.ensures.after c.requires.wide
