use Rattle.std.proofs.Common.{◌≡◌}
use Rattle.study_reader.specs.Checks.{are_listed}
use Rattle.toml.specs.View.{members_view}
use Rattle.study_reader.proofs.keys.are_listed.Given as goal

abbrev pub invariant-members : goal.invariant-members
invariant-members l =
    goal.iterator-members.can_next l.key-iterator × goal.iterator-members.is_finite l.key-iterator
    × (are_listed l.keys (members_view l.key-iterator) ≡ are_listed l.keys (members_view l.table.entries))
