use Rattle.std.proofs.Common.{◌≡◌, ◌+◌, ◌<◌, ◌≤◌, length, get_or, take, sym, subst, ◌∙◌, arith, inl, inr}
use Rattle.std.specs.Prelude.{All}
use Rattle.std.proofs.lemmas.Bool.{false≢true}
use Rattle.std.proofs.lemmas.List.{take_all}
use Rattle.std.proofs.lemmas.List.Elements.{All-more}
use Rattle.net_branch.specs.Marks.{AreValued, IsFilled, unmarked}
use Rattle.net_branch.proofs.Reach.{valued, reached_live, no_fewer}
use Rattle.net_branch.proofs.live_nodes.mark_round.Goals as goal
use Rattle.net_branch.proofs.live_nodes.mark_round.Goals.{then-mark_branch, else-mark_branch}

pub mark_branch-requires : goal.mark_branch-requires
mark_branch-requires c =
    let branches = c.args.network.now.branches in
    let b = c.branch-item.result in
    let i = c.loop-branch.branch-index in
    let within : i < length branches = subst (λ bs. i < length bs) c.as_slice-branch-items.ensures c.loop-branch-test.true in
    let at : b ≡ get_or branches i b = subst (λ bs. b ≡ get_or bs i b) c.as_slice-branch-items.ensures c.branch-item.is in
    subst (λ z. AreValued c.loop-branch.marks z.taps) (sym at)
    (valued c.args.network.now c.requires.whole c.loop-branch.marks (c.loop-branch.auto.marks ∙ c.requires.count) i b within)

pub loop-branch-preserved : goal.loop-branch-preserved
loop-branch-preserved c =
    let network = c.args.network.now in
    let branches = network.branches in
    let before = c.args.marks.now in
    let marks = c.loop-branch.marks in
    let new = c.mark_branch.new.marks in
    let b = c.branch-item.result in
    let i = c.loop-branch.branch-index in
    let kept = c.loop-branch.invariant in
    let within : i < length branches = subst (λ bs. i < length bs) c.as_slice-branch-items.ensures c.loop-branch-test.true in
    let at : b ≡ get_or branches i b = subst (λ bs. b ≡ get_or bs i b) c.as_slice-branch-items.ensures c.branch-item.is in
    record {
      found = λ n m. elim (c.mark_branch.ensures.only n m) [
        | inl k ↦ kept.found n k
        | inr k ↦ reached_live network marks kept.found b (i, within, sym at) k.0 n k.1
      ];
      still = λ e. elim c.if-mark_branch.branch [
        | then-mark_branch w ↦ absurd (false≢true (sym e ∙ w.marked-is))
        | else-mark_branch w ↦
            let one = c.mark_branch.ensures.still w.if-mark_branch.false in
            let all = kept.still (sym w.marked-is ∙ e) in (
              one.0 ∙ all.0,
              subst (λ z. All (IsFilled z) (take (i + 1) branches)) (sym one.0)
                  (All-more (IsFilled marks) branches i b within all.1 (subst (IsFilled marks) at one.1)),
            )
      ];
      more = λ e. elim c.if-mark_branch.branch [
        | then-mark_branch w ↦
            let fewer = c.mark_branch.ensures.grew w.if-mark_branch.true in
            let none_more = no_fewer before marks c.loop-branch.marked (λ g. (kept.still g).0) kept.more in
            omega (arith, fewer, none_more)
        | else-mark_branch w ↦
            let one = c.mark_branch.ensures.still w.if-mark_branch.false in
            subst (λ z. unmarked z < unmarked before) (sym one.0) (kept.more (sym w.marked-is ∙ e))
      ];
    }

pub returns-clause-still : goal.returns-clause-still
returns-clause-still c e =
    let s = c.loop-branch.invariant.still e in
    let past = subst (λ bs. length bs ≤ c.loop-branch.branch-index) c.as_slice-branch-items.ensures c.loop-branch-test.false in (
      s.0,
      subst (λ z. All (IsFilled z) c.args.network.now.branches) s.0
          (subst (All (IsFilled c.loop-branch.marks)) (take_all c.loop-branch.branch-index c.args.network.now.branches past) s.1),
    )
