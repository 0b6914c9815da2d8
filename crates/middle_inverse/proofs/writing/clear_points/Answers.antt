use Rattle.std.proofs.Common.{◌≡◌, ◌+◌, ◌-◌, ◌∷◌, suc, length, drop, replicate, ap, ◌∙◌, sym, arith}
use Rattle.std.proofs.lemmas.List.{drop-replicate, length-replicate}
use Rattle.plain_elimination.specs.Matrix.{nought_rectangle}
use Rattle.middle_inverse.specs.Points.{rectangle_at}
use Rattle.middle_inverse.proofs.Written.{written_more, written_all}
use Rattle.middle_inverse.proofs.writing.clear_points.Goals as goal

pub loop-i-preserved : goal.loop-i-preserved
loop-i-preserved c =
    let n = length c.args.row.now in
    let i = c.loop-i.i in
    let more : n - i ≡ suc (n - (i + 1)) = omega arith in
    let here : drop i (replicate n nought_rectangle) ≡ nought_rectangle ∷ drop (i + 1) (replicate n nought_rectangle) =
    drop-replicate i n nought_rectangle ∙ ap (λ k. replicate k nought_rectangle) more ∙ ap (λ xs. nought_rectangle ∷ xs) (sym (drop-replicate (i + 1) n nought_rectangle)) in
    written_more rectangle_at (replicate n nought_rectangle) c.loop-i.row i c.nought.result (omega arith) (here ∙ ap (λ x. x ∷ drop (i + 1) (replicate n nought_rectangle)) (sym c.nought.ensures)) c.loop-i.invariant

pub returns : goal.returns
returns c =
    let n = length c.args.row.now in
    written_all rectangle_at (replicate n nought_rectangle) c.loop-i.row c.loop-i.i (omega arith) (omega (arith, length-replicate n nought_rectangle)) c.loop-i.invariant
