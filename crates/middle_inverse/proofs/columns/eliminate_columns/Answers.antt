use Rattle.std.proofs.Common.{◌≡◌, ◌-◌, map, length, sym, subst, arith}
use Rattle.std.specs.List.{All}
use Rattle.std.proofs.lemmas.Result.{err_from_is_err_and}
use Rattle.middle_inverse.specs.Points.{rectangle_at}
use Rattle.middle_inverse.proofs.Steps.{columns_more, columns_fault}
use Rattle.middle_inverse.proofs.columns.eliminate_columns.Goals as goal

pub returns-in_err-eliminate_column : goal.returns-in_err-eliminate_column
returns-in_err-eliminate_column g c =
    let rectangle = rectangle_at in
    let failed = columns_fault (λ r. map rectangle r.items) g.E.Enclosure.SCALE (length c.args.rows.now) c.loop-column.column c.args.rows.now c.loop-column.rows c.in_err-eliminate_column.field-0.0 (omega arith) c.in_err-eliminate_column.ensures.value c.loop-column.invariant.value in
    let p = err_from_is_err_and c.from_residual.result c.from_residual.ensures.1 in
    record { value = rw (p.1, p.2) (sym failed); wide = λ w all. c.in_err-eliminate_column.ensures.wide w (c.loop-column.invariant.wide w all) }

pub loop-column-preserved : goal.loop-column-preserved
loop-column-preserved g c =
    let rectangle = rectangle_at in
    record { value = columns_more (λ r. map rectangle r.items) g.E.Enclosure.SCALE (length c.args.rows.now) c.loop-column.column c.args.rows.now c.loop-column.rows c.eliminate_column.new.rows (omega arith) c.in_ok-eliminate_column.ensures.value c.loop-column.invariant.value; wide = λ w all. c.in_ok-eliminate_column.ensures.wide w (c.loop-column.invariant.wide w all) }

pub eliminate_column-requires-clause-wide : goal.eliminate_column-requires-clause-wide
eliminate_column-requires-clause-wide g c =
    let w = length c.args.next.now - 1 in
    let same : w ≡ length c.loop-column.next - 1 = omega arith in
    subst (λ n. All (λ r. length r.items ≡ n) c.loop-column.rows) same (c.loop-column.invariant.wide w c.requires.wide)
