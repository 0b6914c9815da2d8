use Rattle.linear_systems.proofs.Doubled.{complex_as_real}
use Rattle.linear_laws.proofs.Laws.{solvable, solvable_complex}
use Rattle.linear_laws.proofs.injective_is_solvable.Goals as goal

pub returns : goal.returns
returns c = record { law = solvable; of_rows = λ n. solvable n _; of_complex = solvable_complex; as_real = complex_as_real }
