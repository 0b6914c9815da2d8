use Rattle.std.proofs.Common.{inl, inr, refl, sym, subst}
use Rattle.std.proofs.lemmas.Bool.{false≢true}
use Rattle.net_branch.specs.Marks.{HasTapAt, IsReached}
use Rattle.net_branch.proofs.live_nodes.mark_branch.Goals as goal

pub returns-then-is_reached-clause-only : goal.returns-then-is_reached-clause-only
returns-then-is_reached-clause-only c n m = elim (c.mark.ensures.only n m) [
  | inl k ↦ inl k
  | inr k ↦ inr (
    subst (λ ts. IsReached ts c.args.marks.now) c.as_slice-taps.ensures (c.if-is_reached.ensures.0 refl),
    subst (λ ts. HasTapAt ts n) c.as_slice-taps.ensures k,
  )
]

pub returns-else-is_reached-clause-still : goal.returns-else-is_reached-clause-still
returns-else-is_reached-clause-still c e = (
  refl,
  λ r. absurd (false≢true (c.if-is_reached.ensures.1 (subst (λ ts. IsReached ts c.args.marks.now) (sym c.as_slice-taps.ensures) r))),
)
