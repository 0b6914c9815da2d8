use Rattle.complex_interval.specs.Rect.{rectangle_of}
use Rattle.complex_interval.specs.Rectangles.{sub_rectangles}
use Rattle.middle_inverse.proofs.Each.{EachTwoTo}
use Rattle.certified_inverse.proofs.sigma.take_away.Given as goal

abbrev pub invariant-loop-i : goal.invariant-loop-i
invariant-loop-i g l = let rectangle = rectangle_of g.E.Enclosure.ends in EachTwoTo rectangle rectangle sub_rectangles l.initial.column l.column l.other l.i
