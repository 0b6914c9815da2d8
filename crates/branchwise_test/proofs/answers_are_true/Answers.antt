use Rattle.branchwise_test.proofs.Answers.{answers_are_true}
use Rattle.branchwise_test.proofs.answers_are_true.Goals as goal

pub returns : goal.returns
returns c = record { law = λ s. answers_are_true s }
