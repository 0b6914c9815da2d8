use Rattle.plain_elimination.specs.Pattern.{AreInside}
use Rattle.arithmetic_cases.proofs.patterns.pattern_of.Given as goal

abbrev pub invariant-loop-row : goal.invariant-loop-row
invariant-loop-row l = AreInside l.size l.places.items
