use Rattle.linear_laws.proofs.Laws.{front}
use Rattle.linear_laws.proofs.front_of_zero_rows.Goals as goal

pub returns : goal.returns
returns c = record { law = front; of_rows = λ n. front n _ }
