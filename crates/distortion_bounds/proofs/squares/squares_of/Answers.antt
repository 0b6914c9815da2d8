use Rattle.complex_interval.specs.Rect.{rectangle_of}
use Rattle.distortion_bounds.proofs.Sums.{squares_fit}
use Rattle.distortion_bounds.proofs.squares.squares_of.Goals as goal

pub returns-clause-fit : goal.returns-clause-fit
returns-clause-fit g c = rw (c.low_square.ensures.value, c.high_square.ensures.value) (squares_fit (rectangle_of g.E.Enclosure.ends c.args.value) (g.met.E.Enclosure.are_ends c.args.value.re) (g.met.E.Enclosure.are_ends c.args.value.im))
