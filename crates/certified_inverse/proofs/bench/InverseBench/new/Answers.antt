use Rattle.std.proofs.Common.{ap}
use Rattle.complex_interval.specs.Rect.{rectangle_of}
use Rattle.plain_elimination.specs.Matrix.{Square}
use Rattle.certified_inverse.proofs.Greatest.{noughts_count}
use Rattle.certified_inverse.proofs.bench.InverseBench.new.Goals as goal

pub invariant_of-result : goal.invariant_of-result
invariant_of-result g c =
    let rectangle = rectangle_of g.E.Enclosure.ends in
    record {
      few = c.requires;
      inverse_in = ap (λ (m : Square). m.size) c.in_ok-inverse.ensures;
      x_in = noughts_count rectangle c.in_ok-x.x.items c.args.size c.in_ok-x.ensures;
      left_in = noughts_count rectangle c.in_ok-left.left.items c.args.size c.in_ok-left.ensures;
      sums_in = noughts_count rectangle c.in_ok-sums.sums.items c.args.size c.in_ok-sums.ensures;
      ways_in = c.in_ok-ways.ensures.count;
      ways_wide = c.in_ok-ways.ensures.wide;
    }
