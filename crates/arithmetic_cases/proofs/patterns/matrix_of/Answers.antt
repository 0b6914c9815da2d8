use Rattle.std.proofs.Common.{refl, subst, ◌<◌, ◌∙◌}
use Rattle.arithmetic_cases.proofs.Entries.{entry_nought, not_before}
use Rattle.arithmetic_cases.proofs.patterns.matrix_of.Goals as goal

pub set_at-requires-clause-inside : goal.set_at-requires-clause-inside
set_at-requires-clause-inside c = rw (c.as_slice.ensures.value, c.loop-i.invariant.size) c.requires.inside

pub loop-i-init : goal.loop-i-init
loop-i-init c = rw c.in_ok-matrix.ensures (record { size = refl; zeros = λ r k lr lk none. entry_nought c.args.pattern.now.size c.args.pattern.now.size r k lr lk })

pub loop-i-preserved : goal.loop-i-preserved
loop-i-preserved c =
    let places = c.args.pattern.now.places.items in
    let i = c.loop-i.i in
    record {
      size = c.set_at.ensures.size ∙ c.loop-i.invariant.size;
      zeros = λ r k lr lk none. (rw c.as_slice.ensures.value at c.set_at.ensures.others) r k none
          ∙ c.loop-i.invariant.zeros r k (subst (λ n. r < n) c.set_at.ensures.size lr) (subst (λ n. k < n) c.set_at.ensures.size lk) (not_before places i r k none);
    }
