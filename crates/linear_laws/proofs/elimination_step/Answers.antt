use Rattle.linear_laws.proofs.Laws.{step}
use Rattle.linear_laws.proofs.elimination_step.Goals as goal

pub returns : goal.returns
returns c = record { law = step; of_rows = λ n. step n _ }
