use Rattle.std.proofs.Common.{◌≡◌, ◌<◌, length, get_or, sym, subst, arith}
use Rattle.std.proofs.lemmas.List.Elements.{All-get_or}
use Rattle.complex_interval.specs.Rect.{rectangle_of}
use Rattle.drop_bench.proofs.Columns.{entry_of, entry_beyond}
use Rattle.drop_bench.proofs.column.entry_in.Goals as goal

pub returns-then-place-rows : goal.returns-then-place-rows
returns-then-place-rows g c =
    let rows = c.args.rows.now in
    let j = c.args.column in
    let row = c.index-rows-place.result in
    let inside : j < length row.items = subst (λ r. j < length r.items) (sym c.index-rows-place.is) (All-get_or (λ r. j < length r.items) rows c.args.place row (omega arith) c.requires.wide) in
    let is = subst (λ xs. c.index-row-column.result ≡ get_or xs j c.index-row-column.result) c.as_slice-row.ensures.value c.index-row-column.is in
    sym (entry_of (rectangle_of g.E.Enclosure.ends) (λ r. r.items) rows j c.args.place row c.index-row-column.result (omega arith) c.index-rows-place.is inside is)

pub returns-else-place-rows : goal.returns-else-place-rows
returns-else-place-rows g c = sym (entry_beyond (rectangle_of g.E.Enclosure.ends) (λ r. r.items) c.args.rows.now c.args.column c.args.place (omega arith))
