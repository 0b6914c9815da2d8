use Rattle.std.proofs.Common.{◌+◌, ◌<◌, take, length, sym, subst, ◌∙◌, arith}
use Rattle.std.proofs.lemmas.Bool.{false≢true}
use Rattle.std.proofs.lemmas.List.{take_all}
use Rattle.std.proofs.lemmas.List.Elements.{All-more}
use Rattle.net_branch.specs.Marks.{IsMarked, AreMarked, unmarked}
use Rattle.net_branch.proofs.Reach.{mark_only, mark_fewer, no_fewer}
use Rattle.net_branch.proofs.live_nodes.mark.Goals as goal
use Rattle.net_branch.proofs.live_nodes.mark.Goals.{then-not-marks-at, else-not-marks-at}

pub loop-tap-preserved : goal.loop-tap-preserved
loop-tap-preserved c =
    let taps = c.args.taps.now in
    let before = c.args.marks.now in
    let tap = c.tap-item.result in
    let i = c.loop-tap.tap-index in
    let kept = c.loop-tap.invariant in
    elim c.if-not-marks-at.branch [
      | then-not-marks-at w ↦ record {
        only = λ n m. mark_only taps i tap c.loop-tap-test.true c.tap-item.is before c.loop-tap.marks kept.only n (subst (λ z. IsMarked z n) w.marks-is m);
        still = λ e. absurd (false≢true (sym e ∙ w.grew-is));
        more = λ e.
            let within : tap.node.number < length c.loop-tap.marks = subst (λ t. t.node.number < length c.loop-tap.marks) (sym c.tap-item.is) (omega (arith, c.requires i tap c.loop-tap-test.true, c.loop-tap.auto.marks)) in
            let fewer = mark_fewer c.loop-tap.marks tap.node.number within w.if-not-marks-at.true in
            let none_more = no_fewer before c.loop-tap.marks c.loop-tap.grew (λ g. (kept.still g).0) kept.more in
            subst (λ z. unmarked z < unmarked before) (sym w.marks-is) (omega (arith, fewer, none_more));
      }
      | else-not-marks-at w ↦ record {
        only = λ n m. kept.only n (subst (λ z. IsMarked z n) w.marks-is m);
        still = λ e.
            let s = kept.still (sym w.grew-is ∙ e) in (
              w.marks-is ∙ s.0,
              subst (λ z. AreMarked z (take (i + 1) taps)) (sym w.marks-is)
                  (All-more (λ t. IsMarked c.loop-tap.marks t.node.number) taps i tap c.loop-tap-test.true s.1
                  (subst (λ t. IsMarked c.loop-tap.marks t.node.number) c.tap-item.is w.if-not-marks-at.false)),
            );
        more = λ e. subst (λ z. unmarked z < unmarked before) (sym w.marks-is) (kept.more (sym w.grew-is ∙ e));
      }
    ]

pub returns-clause-still : goal.returns-clause-still
returns-clause-still c e =
    let s = c.loop-tap.invariant.still e in
    (s.0, subst (λ z. AreMarked z c.args.taps.now) s.0 (subst (AreMarked c.loop-tap.marks) (take_all c.loop-tap.tap-index c.args.taps.now c.loop-tap-test.false) s.1))
