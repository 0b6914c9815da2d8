use Rattle.std.proofs.Common.{◌≡◌, [], subst, length, get_or, map, replicate, ap, ◌∙◌, sym, arith}
use Rattle.std.proofs.lemmas.List.{length-map, get_or-map}
use Rattle.middle_inverse.specs.Leads.{LeadsOver}
use Rattle.complex_interval.specs.Rect.{rectangle_of}
use Rattle.plain_elimination.specs.Matrix.{nought_rectangle}
use Rattle.plain_elimination.proofs.Sweeps.{read}
use Rattle.certified_inverse.specs.Certificate.{combination}
use Rattle.certified_inverse.proofs.Placed.{element}
use Rattle.certified_inverse.proofs.Products.{combined_more, combined_none, combined_all}
use Rattle.certified_inverse.proofs.sums.combine_listed.Goals as goal

pub loop-i-init : goal.loop-i-init
loop-i-init g c =
    let rectangle = rectangle_of g.E.Enclosure.ends in
    let rows = c.args.matrix.now.rows in
    let size : length c.args.sums.now ≡ c.args.matrix.now.size = c.requires.sums_in in
    ap (λ sums. combination g.E.Enclosure.SCALE sums (map rectangle c.args.factors.now) rows) (sym (c.clear_cells.ensures ∙ ap (λ n. replicate n nought_rectangle) size))

pub returns-in_err-add_listed : goal.returns-in_err-add_listed
returns-in_err-add_listed g c =
    let rectangle = rectangle_of g.E.Enclosure.ends in
    let rows = c.args.matrix.now.rows in
    let factors = c.args.factors.now in
    let i = c.loop-i.i in
    let factor = read rectangle factors i c.index-factors-i.result (omega arith) c.index-factors-i.is in
    let row = element rows i [] (map rectangle c.row.result.now) (omega (arith, c.size-i-end.ensures.rows)) c.row.ensures.value in
    let none = combined_none g.E.Enclosure.SCALE (replicate c.args.matrix.now.size nought_rectangle) (map rectangle c.loop-i.sums) (map rectangle factors) rows i (rectangle c.index-factors-i.result) (map rectangle c.row.result.now) factor row c.in_err-add_listed.ensures c.loop-i.invariant in
    rw c.from_residual.ensures (sym none)

pub loop-i-preserved : goal.loop-i-preserved
loop-i-preserved g c =
    let rectangle = rectangle_of g.E.Enclosure.ends in
    let rows = c.args.matrix.now.rows in
    let factors = c.args.factors.now in
    let i = c.loop-i.i in
    let factor = read rectangle factors i c.index-factors-i.result (omega arith) c.index-factors-i.is in
    let row = element rows i [] (map rectangle c.row.result.now) (omega (arith, c.size-i-end.ensures.rows)) c.row.ensures.value in
    combined_more g.E.Enclosure.SCALE (replicate c.args.matrix.now.size nought_rectangle) (map rectangle c.loop-i.sums) (map rectangle c.add_listed.new.sums) (map rectangle factors) rows i (rectangle c.index-factors-i.result) (map rectangle c.row.result.now) factor row c.in_ok-add_listed.ensures c.loop-i.invariant

pub returns : goal.returns
returns g c =
    let rectangle = rectangle_of g.E.Enclosure.ends in
    let rows = c.args.matrix.now.rows in
    let factors = c.args.factors.now in
    sym (combined_all g.E.Enclosure.SCALE (replicate c.args.matrix.now.size nought_rectangle) (map rectangle c.loop-i.sums) (map rectangle factors) rows c.loop-i.i (omega (arith, length-map factors rectangle)) (omega (arith, c.size-i-end.ensures.rows)) c.loop-i.invariant)

pub add_listed-requires-clause-leads : goal.add_listed-requires-clause-leads
add_listed-requires-clause-leads g c =
    let rows = c.args.matrix.now.rows in
    let i = c.loop-i.i in
    let leads = c.requires.ways i (omega (arith, c.size-i-end.ensures.rows)) in
    let way : get_or (map (λ r. r.items) c.args.ways.now) i [] ≡ c.as_slice.result.now = get_or-map (λ r. r.items) c.args.ways.now i c.index-ways-i.result [] (omega arith) ∙ ap (λ r. r.items) (sym c.index-ways-i.is) ∙ sym c.as_slice.ensures.value in
    subst (LeadsOver (map (rectangle_of g.E.Enclosure.ends) c.row.result.now)) way (subst (λ row. LeadsOver row (get_or (map (λ r. r.items) c.args.ways.now) i [])) (sym c.row.ensures.value) leads)
