use Rattle.std.proofs.Common.{◌≡◌, ◌-◌, ◌++◌, ◌∷◌, Ok, set, get_or, length, sym, ap, ◌∙◌, subst, map, arith, rules}
use Rattle.std.specs.Vec.{with_items}
use Rattle.std.proofs.lemmas.List.{with_items_is, places}
use Rattle.std.proofs.lemmas.List.Elements.{All-get_or}
use Rattle.middle_inverse.specs.Points.{rectangle_at}
use Rattle.middle_inverse.specs.Inverse.{bind}
use Rattle.middle_inverse.proofs.Steps.{first_apart, first_written}
use Rattle.middle_inverse.proofs.Wide.{wide_set, wide_front, wide_back, wide_both}
use Rattle.middle_inverse.proofs.columns.step_first.Goals as goal

pub returns : goal.returns
returns g c =
    let rectangle = rectangle_at in
    let parts = c.split_at_mut-first.ensures in
    let firsts = c.split_at_mut-first.result.0.now in
    let below = c.split_at_mut-first.result.1.now in
    let a = get_or firsts 0 c.index-first-0.result in
    let is : a ≡ get_or firsts 0 a = subst (λ v. v ≡ get_or firsts 0 v) c.index-first-0.is c.index-first-0.is in
    let written = with_items_is a c.step_by.new.first (search (rules, places)) in
    let left = first_written (λ r. map rectangle r.items) g.E.Enclosure.SCALE firsts c.step_by.new.below (with_items a c.step_by.new.first) parts.front_len ∙ ap (λ xs. map rectangle xs ∷ map (λ r. map rectangle r.items) c.step_by.new.below) written in
    let right = first_apart (λ r. map rectangle r.items) g.E.Enclosure.SCALE c.args.column (map (λ r. map rectangle r.items) c.args.above.now) c.args.rest.now firsts below a c.requires.some parts.front parts.back is in
    let kept : length (with_items a c.step_by.new.first).items ≡ length a.items = omega (arith, ap length written, c.step_by.auto.first, ap length c.as_mut_slice.ensures.value) in
    record {
      value = ap (λ rows. bind c.step_by.result (λ _. Ok (map (λ r. map rectangle r.items) c.step_by.new.above ++ rows))) left ∙ (rw c.as_mut_slice.ensures.value at c.step_by.ensures.value) ∙ sym right;
      wide_above = c.step_by.ensures.wide_above;
      wide_rest = λ w all. wide_both (λ r. length r.items) w (set firsts 0 (with_items a c.step_by.new.first)) c.step_by.new.below
          (wide_set (λ r. length r.items) w firsts 0 a (with_items a c.step_by.new.first) (omega arith) is kept (wide_front (λ r. length r.items) w c.args.rest.now firsts 1 parts.front all))
          (c.step_by.ensures.wide_below w (wide_back (λ r. length r.items) w c.args.rest.now below 1 parts.back all));
    }

pub step_by-requires-clause-next_in : goal.step_by-requires-clause-next_in
step_by-requires-clause-next_in g c =
    let parts = c.split_at_mut-first.ensures in
    let firsts = c.split_at_mut-first.result.0.now in
    let w = length c.args.next.now - 1 in
    let wide = All-get_or (λ r. length r.items ≡ w) firsts 0 c.index-first-0.result (omega arith) (wide_front (λ r. length r.items) w c.args.rest.now firsts 1 parts.front c.requires.wide) in
    omega (arith, wide, ap length c.as_mut_slice.ensures.value)

pub step_by-requires-clause-few : goal.step_by-requires-clause-few
step_by-requires-clause-few g c =
    let parts = c.split_at_mut-first.ensures in
    let firsts = c.split_at_mut-first.result.0.now in
    let w = length c.args.next.now - 1 in
    let wide = All-get_or (λ r. length r.items ≡ w) firsts 0 c.index-first-0.result (omega arith) (wide_front (λ r. length r.items) w c.args.rest.now firsts 1 parts.front c.requires.wide) in
    omega (arith, wide, ap length c.as_mut_slice.ensures.value)
