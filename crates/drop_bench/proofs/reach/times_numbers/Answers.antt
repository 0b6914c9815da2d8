use Rattle.std.proofs.Common.{get_or, refl, sym, arith}
use Rattle.certified_inverse.proofs.Placed.{element}
use Rattle.branchwise_test.specs.Reach.{add_up}
use Rattle.drop_bench.proofs.Plain.{two_begin, two_more, two_none, two_all}
use Rattle.drop_bench.proofs.reach.times_numbers.Goals as goal

pub loop-i-init : goal.loop-i-init
loop-i-init c = two_begin (add_up c.args.scale 0) c.args.far.now c.args.numbers.now

pub returns-in_err-far : goal.returns-in_err-far
returns-in_err-far c =
    let none = two_none (add_up c.args.scale 0) c.args.far.now c.loop-i.far c.args.numbers.now c.loop-i.i (get_or c.loop-i.far c.loop-i.i 0) (get_or c.args.numbers.now c.loop-i.i 0) (omega arith) refl (element c.args.numbers.now c.loop-i.i 0 (get_or c.args.numbers.now c.loop-i.i 0) (omega arith) refl) c.in_err-far.ensures c.loop-i.invariant in
    rw c.from_residual.ensures (sym none)

pub loop-i-preserved : goal.loop-i-preserved
loop-i-preserved c = two_more (add_up c.args.scale 0) c.args.far.now c.loop-i.far c.args.numbers.now c.loop-i.i (get_or c.loop-i.far c.loop-i.i 0) c.in_ok-far.field-0 (get_or c.args.numbers.now c.loop-i.i 0) (omega arith) refl (element c.args.numbers.now c.loop-i.i 0 (get_or c.args.numbers.now c.loop-i.i 0) (omega arith) refl) c.in_ok-far.ensures c.loop-i.invariant

pub returns : goal.returns
returns c = sym (two_all (add_up c.args.scale 0) c.args.far.now c.loop-i.far c.args.numbers.now c.loop-i.i (omega arith) (omega arith) c.loop-i.invariant)
