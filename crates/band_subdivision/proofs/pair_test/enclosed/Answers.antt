use Rattle.std.proofs.Common.{◌≡◌, ◌-◌, ◌∙◌, ap, sym, subst, arith, length}
use Rattle.std.specs.Option.{option_map}
use Rattle.certified_inverse.specs.Certificate.{enclosure}
use Rattle.certified_inverse.specs.Sizes.{IsInRange}
use Rattle.certified_inverse.proofs.Sizes.{enclosure_in_range}
use Rattle.complex_interval.specs.Rect.{rectangle_of}
use Rattle.plain_elimination.specs.Matrix.{Square, set_entry}
use Rattle.band_subdivision.proofs.Filled.{enclosed_is}
use Rattle.band_subdivision.proofs.pair_test.enclosed.Goals as goal

pub returns-in-Some-clause-value : goal.returns-in-Some-clause-value
returns-in-Some-clause-value g c =
    let s = g.E.Enclosure.SCALE in
    let rows = c.args.matrix.now.rows in
    let last = c.size-last.result - 1 in
    let sum = rectangle_of g.E.Enclosure.ends c.in-Some.sum in
    let same : last ≡ length rows - 1 = omega (arith, c.size-last.ensures.value, c.size-last.ensures.rows) in
    let stated : c.enclose.result ≡ enclosure s last (set_entry rows last last sum) = c.enclose.ensures.stated ∙ ap (λ (m : Square). enclosure s last m.rows) c.set.ensures in
    stated ∙ enclosed_is s c.args.lo c.args.hi last rows (option_map g.E.Enclosure.ends c.args.susceptance) (rectangle_of g.E.Enclosure.ends c.get.result) sum same c.get.ensures c.in-Some.ensures

pub returns-in-Some-clause-sizes : goal.returns-in-Some-clause-sizes
returns-in-Some-clause-sizes g c =
    subst (λ o. IsInRange o) (sym c.enclose.ensures.stated) (enclosure_in_range g.E.Enclosure.SCALE _ _)
