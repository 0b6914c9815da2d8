use Rattle.std.proofs.Common.{◌≡◌, ◌∙◌, ◌<◌, Some, length, get_or, map, sym, ap, subst, arith}
use Rattle.std.proofs.lemmas.List.{length-map}
use Rattle.std.proofs.lemmas.List.Elements.{All-get_or}
use Rattle.complex_interval.specs.Rect.{rectangle_of}
use Rattle.plain_elimination.specs.Matrix.{nought_rectangle}
use Rattle.plain_elimination.proofs.Sweeps.{read}
use Rattle.certified_inverse.proofs.Placed.{placed_begins, placed_more, placed_all}
use Rattle.drop_bench.proofs.Columns.{cell_at, column_each}
use Rattle.drop_bench.proofs.Plain.{same_some}
use Rattle.drop_bench.proofs.column.copy_column.Goals as goal

pub loop-i-init : goal.loop-i-init
loop-i-init g c = placed_begins (rectangle_of g.E.Enclosure.ends) (λ row. Some (get_or row c.args.column nought_rectangle)) (map (λ r. map (rectangle_of g.E.Enclosure.ends) r.items) c.args.rows.now) c.args.values.now

pub loop-i-preserved : goal.loop-i-preserved
loop-i-preserved g c =
    let rectangle = rectangle_of g.E.Enclosure.ends in
    let rows = c.args.rows.now in
    let j = c.args.column in
    let i = c.loop-i.i in
    let row = c.index-rows-i.result in
    let here = read (λ r. map rectangle r.items) rows i row (omega arith) c.index-rows-i.is in
    let inside : j < length row.items = subst (λ r. j < length r.items) (sym c.index-rows-i.is) (All-get_or (λ r. j < length r.items) rows i row (omega arith) c.requires.wide) in
    let is = subst (λ xs. c.index-row-column.result ≡ get_or xs j c.index-row-column.result) c.as_slice-row.ensures.value c.index-row-column.is in
    let cell = cell_at rectangle (λ r. r.items) rows j row c.index-row-column.result inside is in
    placed_more rectangle (λ row. Some (get_or row j nought_rectangle)) (map (λ r. map rectangle r.items) rows) c.loop-i.values i (map rectangle row.items) c.index-row-column.result (omega arith) here (ap Some (sym cell)) c.loop-i.invariant

pub returns : goal.returns
returns g c =
    let rectangle = rectangle_of g.E.Enclosure.ends in
    let rows = map (λ r. map rectangle r.items) c.args.rows.now in
    let all = placed_all rectangle (λ row. Some (get_or row c.args.column nought_rectangle)) rows c.loop-i.values c.loop-i.i (omega arith) (omega (arith, length-map c.args.rows.now (λ r. map rectangle r.items))) c.loop-i.invariant in
    same_some (sym all ∙ column_each c.args.column rows)
