use Rattle.std.proofs.Common.{ℕ, ◌+◌, ◌/◌, ◌^◌, get_or, refl, sym, ap, ◌∙◌, arith}
use Rattle.certified_inverse.specs.Certificate.{in_size}
use Rattle.certified_inverse.proofs.Placed.{element, placed_begins, placed_more, placed_none}
use Rattle.middle_inverse.specs.Lists.{greatest}
use Rattle.drop_bench.proofs.Plain.{all_written}
use Rattle.drop_bench.proofs.contraction.write_weights.Goals as goal

pub loop-i-init : goal.loop-i-init
loop-i-init c = placed_begins (λ (n : ℕ). n) (λ n. in_size (n + greatest c.args.reached.now / 2 ^ 20 + 65536)) c.args.reached.now c.args.weights.now

pub returns-in_err-weights : goal.returns-in_err-weights
returns-in_err-weights c =
    let n = get_or c.args.reached.now c.loop-i.i 0 in
    let here = element c.args.reached.now c.loop-i.i 0 n (omega arith) refl in
    let stated = c.in_err-weights.ensures ∙ ap (λ m. in_size (n + m / 2 ^ 20 + 65536)) c.greatest_of-most.ensures in
    let none = placed_none (λ (n : ℕ). n) (λ n. in_size (n + greatest c.args.reached.now / 2 ^ 20 + 65536)) c.args.reached.now c.loop-i.weights c.loop-i.i n here stated c.loop-i.invariant in
    rw c.from_residual.ensures (sym none)

pub loop-i-preserved : goal.loop-i-preserved
loop-i-preserved c =
    let n = get_or c.args.reached.now c.loop-i.i 0 in
    let here = element c.args.reached.now c.loop-i.i 0 n (omega arith) refl in
    let stated = c.in_ok-weights.ensures ∙ ap (λ m. in_size (n + m / 2 ^ 20 + 65536)) c.greatest_of-most.ensures in
    placed_more (λ (n : ℕ). n) (λ n. in_size (n + greatest c.args.reached.now / 2 ^ 20 + 65536)) c.args.reached.now c.loop-i.weights c.loop-i.i n c.in_ok-weights.field-0 (omega arith) here stated c.loop-i.invariant

pub returns : goal.returns
returns c = sym (all_written (λ n. in_size (n + greatest c.args.reached.now / 2 ^ 20 + 65536)) c.args.reached.now c.loop-i.weights c.loop-i.i (omega arith) (omega arith) c.loop-i.invariant)
