use Rattle.std.proofs.Common.{◌*◌, length, false, ap, arith}
use Rattle.std.proofs.lemmas.List.{length-replicate}
use Rattle.sparse_rows.proofs.Marks.{filled}
use Rattle.sparse_rows.proofs.fill.fill_marks.Goals as goal

pub returns : goal.returns
returns c =
    let size = c.args.size in
    filled size c.args.places.now c.args.marks.now c.mark_diagonal.new.marks c.mark_places.new.marks c.pass_rows.new.marks c.requires.clear
    (omega (arith, c.pass_rows.auto.marks, c.mark_places.auto.marks, c.mark_diagonal.auto.marks, ap length c.requires.clear, length-replicate (size * size) false))
    c.mark_diagonal.ensures.here c.mark_diagonal.ensures.grown c.mark_places.ensures.here c.mark_places.ensures.grown c.pass_rows.ensures.passed c.pass_rows.ensures.grown
