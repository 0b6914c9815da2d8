use Rattle.std.proofs.Common.{◌≡◌, ◌∙◌, length, map, take, sym, ap, arith, rules, true, pos}
use Rattle.std.specs.Prelude.{int_lt}
use Rattle.std.proofs.lemmas.Grind.{common_steps}
use Rattle.std.specs.Option.{option_map}
use Rattle.exact_fraction.specs.Fraction.{ratio_of}
use Rattle.complex_interval.specs.Rect.{rectangle_of}
use Rattle.complex_interval.specs.Rectangles.{sub_rectangles}
use Rattle.middle_inverse.specs.Inverse.{middle_point}
use Rattle.admittance_box.specs.Exact.{one_ends}
use Rattle.admittance_box.proofs.Ranges.{one_times_one}
use Rattle.drop_bench.specs.Drops.{drop_ends}
use Rattle.branchwise_bench.specs.Layout.{raised_at}
use Rattle.branchwise_bench.proofs.Counting.{all_of, no_admittance, no_rest, extra_raised}
use Rattle.branchwise_bench.proofs.Laid.{one_range}
use Rattle.branchwise_bench.proofs.count.count_extra.Goals as goal

pub returns-in_err-y-clause-value : goal.returns-in_err-y-clause-value
returns-in_err-y-clause-value g c =
    let above : int_lt (pos 0) (ratio_of c.args.extra).num ≡ true = first_of (search rules, grind (arith, common_steps)) in
    let small = g.met.E.Enclosure.small_scale in
    let s = g.E.Enclosure.SCALE in
    ap (option_map (λ _. map (drop_ends g.E.Enclosure.ends) c.args.drops.now)) c.from_residual-in_err-y.ensures
    ∙ no_admittance s (g.E.Enclosure.ends c.args.order) (one_range s small) (one_times_one s small) c.args.place (ratio_of c.args.extra) (g.E.Enclosure.ends c.in_ok-susceptance.susceptance) (map (drop_ends g.E.Enclosure.ends) c.args.drops.now)
    above c.in_ok-susceptance.ensures.value c.in_err-y.ensures.value

pub returns-in_err-rest-clause-value : goal.returns-in_err-rest-clause-value
returns-in_err-rest-clause-value g c =
    let above : int_lt (pos 0) (ratio_of c.args.extra).num ≡ true = first_of (search rules, grind (arith, common_steps)) in
    let small = g.met.E.Enclosure.small_scale in
    let s = g.E.Enclosure.SCALE in
    ap (option_map (λ _. map (drop_ends g.E.Enclosure.ends) c.args.drops.now)) c.from_residual-in_err-rest.ensures
    ∙ no_rest s (g.E.Enclosure.ends c.args.order) (one_range s small) (one_times_one s small) c.args.place (ratio_of c.args.extra) (g.E.Enclosure.ends c.in_ok-susceptance.susceptance) (rectangle_of g.E.Enclosure.ends c.in_ok-y.y) (map (drop_ends g.E.Enclosure.ends) c.args.drops.now)
    above c.in_ok-susceptance.ensures.value c.in_ok-y.ensures.value (c.in_err-rest.ensures.value ∙ ap (sub_rectangles (rectangle_of g.E.Enclosure.ends c.in_ok-y.y)) c.middle_rectangle-middle.ensures)

pub returns-clause-value : goal.returns-clause-value
returns-clause-value g c =
    let above : int_lt (pos 0) (ratio_of c.args.extra).num ≡ true = first_of (search rules, grind (arith, common_steps)) in
    let small = g.met.E.Enclosure.small_scale in
    let s = g.E.Enclosure.SCALE in
    let h = drop_ends g.E.Enclosure.ends in
    let y = rectangle_of g.E.Enclosure.ends c.in_ok-y.y in
    let rest = rectangle_of g.E.Enclosure.ends c.in_ok-rest.rest in
    let middle = c.middle_rectangle-middle.ensures in
    let one = g.E.Enclosure.ends c.exact_one.result in
    let old = c.args.drops.now in
    let new = c.raise_at.new.drops in
    let all = length old in
    let long = c.raise_at.auto.drops in
    ap (λ l. option_map (λ _. l) c.raise_at.result) (sym (all_of h new all (omega (arith, long))))
    ∙ (c.raise_at.ensures.value
    ∙ (ap (λ m. raised_at s m rest one c.args.place (take all (map h old))) middle
    ∙ (ap (λ f. raised_at s (middle_point y) rest f c.args.place (take all (map h old))) c.exact_one.ensures
    ∙ (ap (raised_at s (middle_point y) rest (one_ends s) c.args.place) (all_of h old all (omega arith))
    ∙ extra_raised s (g.E.Enclosure.ends c.args.order) (one_range s small) (one_times_one s small) c.args.place (ratio_of c.args.extra) (g.E.Enclosure.ends c.in_ok-susceptance.susceptance) y rest (map h old)
    above c.in_ok-susceptance.ensures.value c.in_ok-y.ensures.value (c.in_ok-rest.ensures.value ∙ ap (sub_rectangles y) middle)))))
