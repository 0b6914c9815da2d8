use Rattle.exact_algebra.proofs.Worked.{worked_numbers}
use Rattle.exact_algebra.proofs.worked_numbers.Goals as goal

pub returns : goal.returns
returns c = record { law = worked_numbers }
