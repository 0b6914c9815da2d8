use Rattle.std.proofs.Common.{◌≡◌, false, get_or, refl, sym, subst}
use Rattle.std.specs.Prelude.{All}
use Rattle.std.proofs.lemmas.Bool.{false≢true}
use Rattle.std.proofs.lemmas.List.{take_all}
use Rattle.std.proofs.lemmas.List.Elements.{All-more}
use Rattle.net_branch.specs.Marks.{beside}
use Rattle.net_branch.proofs.Reach.{not_reached}
use Rattle.net_branch.proofs.live_nodes.is_reached.Goals as goal

pub returns-then-marks-tap : goal.returns-then-marks-tap
returns-then-marks-tap c = (
  λ e. beside c.tap-item.result (c.loop-tap.tap-index, c.loop-tap-test.true, sym c.tap-item.is) c.if-marks-tap.true,
  λ r. refl,
)

pub loop-tap-preserved : goal.loop-tap-preserved
loop-tap-preserved c =
    All-more (λ t. get_or c.args.marks.now t.node.number false ≡ false) c.args.taps.now c.loop-tap.tap-index c.tap-item.result c.loop-tap-test.true c.loop-tap.invariant
    (subst (λ t. get_or c.args.marks.now t.node.number false ≡ false) c.tap-item.is c.if-marks-tap.false)

pub returns : goal.returns
returns c = (
  λ e. absurd (false≢true e),
  λ r. absurd (not_reached c.args.taps.now c.args.marks.now c.if-taps-eq1.false
      (subst (All (λ t. get_or c.args.marks.now t.node.number false ≡ false)) (take_all c.loop-tap.tap-index c.args.taps.now c.loop-tap-test.false) c.loop-tap.invariant) r),
)
