use Rattle.std.proofs.Common.{map, ◌∙◌, arith}
use Rattle.std.proofs.lemmas.List.{length-map, length-set}
use Rattle.complex_interval.specs.Rect.{rectangle_of}
use Rattle.sparse_rows.proofs.Loads.{front_stored, all_fronts}
use Rattle.sparse_rows.proofs.load.store_sides.Goals as goal

pub loop-i-preserved : goal.loop-i-preserved
loop-i-preserved g c =
    let rectangle = rectangle_of g.E.Enclosure.ends in
    let inv = c.loop-i.invariant in
    rw c.set.ensures (record {
      size = length-set c.loop-i.right c.loop-i.i (rectangle c.cell-value.result) ∙ inv.size;
      front = front_stored rectangle c.args.sides.now c.loop-i.right c.loop-i.i c.cell-value.result (omega arith) (omega arith) c.cell-value.ensures inv.front;
    })

pub returns : goal.returns
returns g c =
    let rectangle = rectangle_of g.E.Enclosure.ends in
    all_fronts c.loop-i.right (map rectangle c.args.sides.now) c.loop-i.i (omega arith) (omega (arith, length-map c.args.sides.now rectangle)) c.loop-i.invariant.front
