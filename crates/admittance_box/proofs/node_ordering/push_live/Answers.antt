use Rattle.std.proofs.Common.{◌≡◌, ◌∙◌, ◌++◌, ◌∷◌, [], ℕ, get_or, false, sym, ap, Vec, Global}
use Rattle.admittance_box.proofs.NodeLoops.{taken_next, passed_over}
use Rattle.admittance_box.proofs.node_ordering.push_live.Goals as goal
use Rattle.admittance_box.proofs.node_ordering.push_live.Goals.{then-is_taken+in_ok-push, else-is_taken}

pub loop-node-preserved : goal.loop-node-preserved
loop-node-preserved c = elim c.if-is_taken.branch [
  | then-is_taken+in_ok-push w ↦
      let after : c.if-is_taken.ordering.items ≡ c.loop-node.ordering.items ++ c.loop-node.node ∷ [] = ap (λ (v : Vec ℕ Global). v.items) w.ordering-is ∙ w.in_ok-push.ensures.items in
      taken_next (λ n. get_or c.args.live.now n false) c.args.driven c.loop-node.node c.args.to c.loop-node.ordering.items c.if-is_taken.ordering.items _ c.loop-node-test.true (sym w.if-is_taken.true ∙ c.is_taken.ensures) after c.loop-node.invariant
  | else-is_taken w ↦
      let kept : c.if-is_taken.ordering.items ≡ c.loop-node.ordering.items = ap (λ (v : Vec ℕ Global). v.items) w.ordering-is in
      rw kept (passed_over (λ n. get_or c.args.live.now n false) c.args.driven c.loop-node.node c.args.to c.loop-node.ordering.items _ c.loop-node-test.true (sym w.if-is_taken.false ∙ c.is_taken.ensures) c.loop-node.invariant)
]
