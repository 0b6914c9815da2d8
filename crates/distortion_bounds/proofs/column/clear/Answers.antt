use Rattle.std.proofs.Common.{◌≡◌, ◌∙◌, sym, ap, take, arith}
use Rattle.std.proofs.lemmas.List.{length-set}
use Rattle.std.specs.Prelude.{replicate}
use Rattle.plain_elimination.specs.Matrix.{nought_rectangle}
use Rattle.distortion_bounds.proofs.Filling.{cleared_more, all_cleared}
use Rattle.distortion_bounds.proofs.column.clear.Goals as goal

pub loop-row-preserved : goal.loop-row-preserved
loop-row-preserved g c =
    let inv = c.loop-row.invariant in
    rw (c.set.ensures, c.zero_rectangle.ensures) (record {
      size = length-set c.loop-row.column c.loop-row.row nought_rectangle ∙ inv.size;
      front = cleared_more nought_rectangle c.loop-row.column c.loop-row.row (omega (arith, c.loop-row-test.true, inv.size)) inv.front;
    })

pub returns : goal.returns
returns g c =
    let inv = c.loop-row.invariant in
    let end : c.loop-row.row ≡ c.args.size = omega arith in
    all_cleared nought_rectangle c.loop-row.column c.args.size (sym inv.size) (sym (ap (λ n. take n c.loop-row.column) end) ∙ inv.front ∙ ap (λ n. replicate n nought_rectangle) end)
