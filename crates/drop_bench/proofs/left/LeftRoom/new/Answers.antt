use Rattle.complex_interval.specs.Rect.{rectangle_of}
use Rattle.certified_inverse.proofs.Greatest.{noughts_count}
use Rattle.drop_bench.proofs.left.LeftRoom.new.Goals as goal

pub returns : goal.returns
returns g c =
    let rectangle = rectangle_of g.E.Enclosure.ends in
    record {
      unit = noughts_count rectangle c.in_ok-unit.unit.items c.args.size c.in_ok-unit.ensures;
      sums = noughts_count rectangle c.in_ok-sums.sums.items c.args.size c.in_ok-sums.ensures;
      ways = c.in_ok-ways.ensures.count;
      ways_wide = c.in_ok-ways.ensures.wide;
    }
