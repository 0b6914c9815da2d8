use Rattle.std.proofs.Common.{◌≡◌, drop}
use Rattle.study_reader.specs.Checks.{name_at}
use Rattle.study_reader.proofs.keys.place_of_name.Given as goal

abbrev pub invariant-loop-name : goal.invariant-loop-name
invariant-loop-name l = record {
  place : l.place ≡ l.name-index;
  found : name_at l.place (drop l.name-index l.names) l.text ≡ name_at 0 l.names l.text;
}
