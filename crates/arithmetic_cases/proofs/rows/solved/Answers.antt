use Rattle.arithmetic_cases.proofs.rows.solved.Goals as goal

pub solve-answer-requires-clause-outside : goal.solve-answer-requires-clause-outside
solve-answer-requires-clause-outside g c = rw c.in_ok-bench.ensures c.in_ok-matrix.ensures.zeros
