use Rattle.std.proofs.Common.{◌≡◌, drop}
use Rattle.study_reader.specs.Curves.{is_rising}
use Rattle.study_reader.proofs.curves.is_rising.Given as goal

abbrev pub invariant-loop-number : goal.invariant-loop-number
invariant-loop-number l = is_rising l.before (drop l.number-index l.numbers) ≡ is_rising 0 l.numbers
