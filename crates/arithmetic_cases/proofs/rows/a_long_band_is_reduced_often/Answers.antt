use Rattle.arithmetic_cases.proofs.rows.a_long_band_is_reduced_often.Goals as goal

pub reduce-requires-clause-outside : goal.reduce-requires-clause-outside
reduce-requires-clause-outside g c = rw c.in_ok-bench.ensures c.in_ok-matrix.ensures.zeros

pub reduce-requires-in-loop-time-clause-outside : goal.reduce-requires-in-loop-time-clause-outside
reduce-requires-in-loop-time-clause-outside g c = rw (c.loop-time.invariant.kept, c.reduce.ensures.kept, c.in_ok-bench.ensures) c.in_ok-matrix.ensures.zeros
