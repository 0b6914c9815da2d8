use Rattle.std.proofs.Common.{◌≡◌, ◌<◌, ◌+◌, ◌-◌, ◌∷◌, drop, map, length, sym, ap, ◌∙◌, subst, arith}
use Rattle.std.proofs.lemmas.List.{length-map}
use Rattle.middle_inverse.specs.Points.{rectangle_at}
use Rattle.middle_inverse.specs.Inverse.{size_at}
use Rattle.middle_inverse.proofs.Each.{Found, read_twice, found_greater, found_less, place_below}
use Rattle.middle_inverse.proofs.rows.pivot_place.Goals as goal

pub loop-i-preserved-then-greatest-size : goal.loop-i-preserved-then-greatest-size
loop-i-preserved-then-greatest-size c =
    let rectangle = rectangle_at in
    let i = c.loop-i.i - 1 in
    let inside = c.loop-i.invariant.in_range in
    let sizes = map (size_at c.args.column) (map (λ r. map rectangle r.items) c.args.rows.now) in
    let back : c.loop-i.i ≡ i + 1 = omega arith in
    let found = subst (λ k. Found sizes k c.loop-i.place c.loop-i.greatest) back c.loop-i.invariant.found in
    let here = read_twice (size_at c.args.column) (λ r. map rectangle r.items) c.args.rows.now i c.index-rows-i.result (omega arith) c.index-rows-i.is in
    let size = rw c.as_slice.ensures.value at c.size_at-size.ensures in
    record { in_range = omega arith; found = found_greater sizes i c.loop-i.place c.loop-i.greatest c.size_at-size.result (here ∙ ap (λ z. z ∷ drop (i + 1) sizes) (sym size)) c.if-greatest-size.true found }

pub loop-i-preserved : goal.loop-i-preserved
loop-i-preserved c =
    let rectangle = rectangle_at in
    let i = c.loop-i.i - 1 in
    let inside = c.loop-i.invariant.in_range in
    let sizes = map (size_at c.args.column) (map (λ r. map rectangle r.items) c.args.rows.now) in
    let back : c.loop-i.i ≡ i + 1 = omega arith in
    let found = subst (λ k. Found sizes k c.loop-i.place c.loop-i.greatest) back c.loop-i.invariant.found in
    let here = read_twice (size_at c.args.column) (λ r. map rectangle r.items) c.args.rows.now i c.index-rows-i.result (omega arith) c.index-rows-i.is in
    let size = rw c.as_slice.ensures.value at c.size_at-size.ensures in
    record { in_range = omega arith; found = found_less sizes i c.loop-i.place c.loop-i.greatest c.size_at-size.result (here ∙ ap (λ z. z ∷ drop (i + 1) sizes) (sym size)) c.if-greatest-size.false found }

pub returns-clause-place_in : goal.returns-clause-place_in
returns-clause-place_in c =
    let rectangle = rectangle_at in
    let rows = c.args.rows.now in
    let sizes = map (size_at c.args.column) (map (λ r. map rectangle r.items) rows) in
    let all : length sizes ≡ length rows = length-map (map (λ r. map rectangle r.items) rows) (size_at c.args.column) ∙ length-map rows (λ r. map rectangle r.items) in
    let none : c.loop-i.i ≡ 0 = omega arith in
    let found = subst (λ k. Found sizes k c.loop-i.place c.loop-i.greatest) none c.loop-i.invariant.found in
    let below : c.loop-i.place < length sizes = place_below sizes c.loop-i.place c.loop-i.greatest (omega arith) found in
    omega arith
