use Rattle.std.proofs.Common.{◌≡◌, ◌++◌, length, take, drop, ap, sym, subst, ◌∙◌, arith}
use Rattle.std.specs.Prelude.{All}
use Rattle.std.proofs.lemmas.List.{take_at}
use Rattle.net_branch.specs.LiveNodes.{AreLive}
use Rattle.net_branch.specs.Marks.{IsFilled}
use Rattle.net_branch.proofs.Reach.{marked_live}
use Rattle.net_branch.proofs.live_nodes.live.Goals as goal

pub returns : goal.returns
returns c =
    let network = c.args.network.now in
    let items = c.loop.marks.items in
    let new = c.mark_round.new.marks in
    let still = c.mark_round.ensures.still c.loop-test.false in
    let same : new ≡ items = still.0 ∙ c.deref_mut.ensures.value in
    let count : length new ≡ c.loop.marks.len = omega (arith, ap length same, c.loop.marks.ok.0) in
    let whole : take c.loop.marks.len (new ++ drop (length new) items) ≡ new = take_at new (drop (length new) items) c.loop.marks.len count in
    subst (AreLive network) (sym whole)
    (marked_live network new (ap length same ∙ c.loop.invariant.count) c.mark_round.ensures.found
    (subst (λ z. All (IsFilled z) network.branches) (sym still.0) still.1))
