use Rattle.std.proofs.Common.{◌≡◌, drop}
use Rattle.study_reader.specs.Checks.{is_listed}
use Rattle.study_reader.proofs.keys.is_listed.Given as goal

abbrev pub invariant-loop-key : goal.invariant-loop-key
invariant-loop-key l = is_listed (drop l.key-index l.keys) l.name ≡ is_listed l.keys l.name
