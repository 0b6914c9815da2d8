use Rattle.arithmetic_cases.proofs.rows.reduced.Goals as goal

pub reduce-requires-clause-outside : goal.reduce-requires-clause-outside
reduce-requires-clause-outside g c = rw c.in_ok-bench.ensures c.in_ok-matrix.ensures.zeros

pub reduce-requires-2-clause-outside : goal.reduce-requires-2-clause-outside
reduce-requires-2-clause-outside g c = rw (c.reduce.ensures.kept, c.in_ok-bench.ensures) c.in_ok-matrix.ensures.zeros
