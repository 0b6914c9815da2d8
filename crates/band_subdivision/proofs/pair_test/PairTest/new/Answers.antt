use Rattle.band_subdivision.proofs.pair_test.PairTest.new.Goals as goal

pub invariant_of-result-2 : goal.invariant_of-result-2
invariant_of-result-2 g c = (
  c.requires.levels,
  record { some = c.requires.some; size = c.requires.size; pattern = c.requires.pattern; is = c.from_fraction-susceptance.ensures.value },
  c.requires.second,
)
