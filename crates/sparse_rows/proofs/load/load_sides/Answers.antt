use Rattle.std.proofs.Common.{map, arith}
use Rattle.std.proofs.lemmas.List.{length-map}
use Rattle.complex_interval.specs.Rect.{rectangle_of}
use Rattle.sparse_rows.proofs.Loads.{front_loaded, all_fronts}
use Rattle.sparse_rows.proofs.load.load_sides.Goals as goal

pub loop-i-preserved : goal.loop-i-preserved
loop-i-preserved g c =
    rw c.set_cell.ensures (front_loaded (rectangle_of g.E.Enclosure.ends) c.loop-i.sides c.args.right.now c.loop-i.i c.get-value.result (omega arith) (omega arith) c.get-value.ensures c.loop-i.invariant)

pub returns : goal.returns
returns g c =
    let rectangle = rectangle_of g.E.Enclosure.ends in
    all_fronts (map rectangle c.loop-i.sides) c.args.right.now c.loop-i.i (omega (arith, length-map c.loop-i.sides rectangle)) (omega arith) c.loop-i.invariant
