use Rattle.std.proofs.Common.{rules}
use Rattle.fixed_decimal.specs.Parsed.{decimal_of}
use Rattle.fixed_decimal.proofs.Answers.{answer_is}
use Rattle.fixed_decimal.proofs.decimal.Decimal.parse.Goals as goal

pub returns-then-is_empty-clause-grammar : goal.returns-then-is_empty-clause-grammar
unfolding decimal_of
returns-then-is_empty-clause-grammar c = answer_is _ _ (search rules)

pub returns-clause-grammar : goal.returns-clause-grammar
unfolding decimal_of
returns-clause-grammar c = answer_is _ _ (search rules)
