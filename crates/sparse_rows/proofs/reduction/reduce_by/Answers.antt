use Rattle.std.proofs.Common.{◌≡◌, ◌+◌, ◌*◌, ◌-◌, length, drop, get_or, map, subst, ap, ◌∙◌, arith}
use Rattle.std.proofs.lemmas.List.{length-drop}
use Rattle.complex_interval.specs.Rect.{rectangle_of}
use Rattle.sparse_rows.specs.Listed.{Skips, ZeroAt}
use Rattle.sparse_rows.proofs.reduction.reduce_by.Goals as goal

pub eliminate_rows-requires-clause-rows_listed : goal.eliminate_rows-requires-clause-rows_listed
eliminate_rows-requires-clause-rows_listed g c =
    let rectangle = rectangle_of g.E.Enclosure.ends in
    let k = c.args.column in
    let gaps = c.args.gaps.now in
    let tail : length c.cells_from.result.now ≡ length c.args.line.now - 1 = ap length c.cells_from.ensures ∙ length-drop 1 c.args.line.now in
    let width : k + length c.args.line.now ≡ k + 1 + length c.cells_from.result.now = omega arith in
    rw c.gaps_from.ensures (subst (λ w. Skips (λ r. ZeroAt (map rectangle c.args.later.now) (r * w + k)) (drop 1 gaps) (get_or gaps 0 0 - 1)) width c.requires.rows_listed)

pub returns-in-Some-clause-zeros : goal.returns-in-Some-clause-zeros
returns-in-Some-clause-zeros g c =
    let k = c.args.column in
    let tail : length c.cells_from.result.now ≡ length c.args.line.now - 1 = ap length c.cells_from.ensures ∙ length-drop 1 c.args.line.now in
    let width : k + 1 + length c.cells_from.result.now ≡ k + length c.args.line.now = omega arith in
    rw (← c.cells_from.ensures, ← tail, ← width) c.eliminate_rows.ensures.zeros

pub returns-in-None-clause-zeros : goal.returns-in-None-clause-zeros
returns-in-None-clause-zeros g c =
    let k = c.args.column in
    let tail : length c.cells_from.result.now ≡ length c.args.line.now - 1 = ap length c.cells_from.ensures ∙ length-drop 1 c.args.line.now in
    let width : k + 1 + length c.cells_from.result.now ≡ k + length c.args.line.now = omega arith in
    rw (← c.cells_from.ensures, ← tail, ← width) c.eliminate_rows.ensures.zeros

pub returns-in-Some-clause-entries : goal.returns-in-Some-clause-entries
returns-in-Some-clause-entries g c =
    let k = c.args.column in
    let tail : length c.cells_from.result.now ≡ length c.args.line.now - 1 = ap length c.cells_from.ensures ∙ length-drop 1 c.args.line.now in
    let width : k + 1 + length c.cells_from.result.now ≡ k + length c.args.line.now = omega arith in
    rw (← tail, ← width) c.eliminate_rows.ensures.entries

pub returns-in-None-clause-entries : goal.returns-in-None-clause-entries
returns-in-None-clause-entries g c =
    let k = c.args.column in
    let tail : length c.cells_from.result.now ≡ length c.args.line.now - 1 = ap length c.cells_from.ensures ∙ length-drop 1 c.args.line.now in
    let width : k + 1 + length c.cells_from.result.now ≡ k + length c.args.line.now = omega arith in
    rw (← tail, ← width) c.eliminate_rows.ensures.entries
