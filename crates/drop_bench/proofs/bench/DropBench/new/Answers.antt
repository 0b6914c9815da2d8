use Rattle.std.proofs.Common.{ap}
use Rattle.complex_interval.specs.Rect.{rectangle_of}
use Rattle.plain_elimination.specs.Matrix.{Square}
use Rattle.certified_inverse.proofs.Greatest.{noughts_count}
use Rattle.drop_bench.proofs.bench.DropBench.new.Goals as goal

pub invariant_of-result : goal.invariant_of-result
invariant_of-result g c =
    let rectangle = rectangle_of g.E.Enclosure.ends in
    record {
      few = c.requires;
      matrix_in = ap (λ (m : Square). m.size) c.in_ok-matrix.ensures;
      inverse_in = ap (λ (m : Square). m.size) c.in_ok-inverse.ensures;
      voltages_in = c.in_ok-voltages.ensures.count;
      voltages_wide = c.in_ok-voltages.ensures.wide;
      column_in = noughts_count rectangle c.in_ok-column.column.items c.args.nodes c.in_ok-column.ensures;
      xs_in = noughts_count rectangle c.in_ok-xs.xs.items c.args.drops c.in_ok-xs.ensures;
      left_in = c.in_ok-left.ensures;
      sizes_in = c.in_ok-sizes.ensures;
      room_in = c.in_ok-room.ensures;
    }
