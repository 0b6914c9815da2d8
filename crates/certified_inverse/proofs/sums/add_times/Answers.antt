use Rattle.std.proofs.Common.{ap, ◌∙◌, sym, rules}
use Rattle.complex_interval.specs.Rect.{rectangle_of}
use Rattle.certified_inverse.specs.Certificate.{add_times}
use Rattle.certified_inverse.proofs.Zeros.{add_by_nought, add_nought, zero_rectangle}
use Rattle.certified_inverse.proofs.sums.add_times.Goals as goal

pub returns-then-is_zero : goal.returns-then-is_zero
returns-then-is_zero g c =
    let rectangle = rectangle_of g.E.Enclosure.ends in
    let s = g.E.Enclosure.SCALE in
    let are = g.met.E.Enclosure.are_ends in
    let zero = zero_rectangle s (rectangle c.args.f) (sym c.is_zero.ensures ∙ c.if-is_zero.true) in
    sym (ap (λ f. add_times s f (rectangle c.args.sum) (rectangle c.args.a)) zero ∙ add_by_nought s (rectangle c.args.sum) (rectangle c.args.a) (are c.args.sum.re) (are c.args.sum.im))

pub returns-then-is_zero-2 : goal.returns-then-is_zero-2
returns-then-is_zero-2 g c =
    let rectangle = rectangle_of g.E.Enclosure.ends in
    let s = g.E.Enclosure.SCALE in
    let are = g.met.E.Enclosure.are_ends in
    let zero = zero_rectangle s (rectangle c.args.a) (sym c.is_zero-2.ensures ∙ c.if-is_zero-2.true) in
    sym (ap (λ a. add_times s (rectangle c.args.f) (rectangle c.args.sum) a) zero ∙ add_nought s (rectangle c.args.f) (rectangle c.args.sum) (are c.args.sum.re) (are c.args.sum.im))

pub returns-in_err-part : goal.returns-in_err-part
unfolding add_times
returns-in_err-part g c = search rules

pub returns : goal.returns
unfolding add_times
returns g c = search rules
