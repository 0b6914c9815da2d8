use Rattle.std.proofs.Common.{◌≡◌, ◌++◌, ◌-◌, get_or, false}
use Rattle.admittance_box.specs.Places.{live_from}
use Rattle.admittance_box.proofs.node_ordering.push_live.Given as goal

abbrev pub invariant-loop-node : goal.invariant-loop-node
invariant-loop-node l =
    l.ordering.items ++ live_from (λ n. get_or l.live n false) l.driven l.node (l.to - l.node) ≡ l.initial.ordering.items ++ live_from (λ n. get_or l.live n false) l.driven l.from (l.to - l.from)
