use Rattle.std.proofs.Common.{◌∙◌, ap}
use Rattle.plain_elimination.specs.Layout.{rows_of}
use Rattle.plain_elimination.specs.Matrix.{nought_rectangle}
use Rattle.plain_elimination.proofs.Places.{rows_replicate}
use Rattle.plain_elimination.proofs.matrix.Matrix.new.Goals as goal

pub returns : goal.returns
returns g c =
    let size = c.args.size in
    ap (λ rows. record { size = size; rows = rows }) (ap (rows_of size size) c.in_ok-cells.ensures ∙ rows_replicate size size nought_rectangle)
