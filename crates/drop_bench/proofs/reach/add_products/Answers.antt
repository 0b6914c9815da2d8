use Rattle.std.proofs.Common.{map, get_or, refl, sym, arith}
use Rattle.std.proofs.lemmas.List.{length-map}
use Rattle.plain_elimination.proofs.Sweeps.{read}
use Rattle.branchwise_test.specs.Reach.{products_from}
use Rattle.drop_bench.proofs.Plain.{two_begin, two_more, two_none, two_all}
use Rattle.drop_bench.proofs.reach.add_products.Goals as goal

pub loop-i-init : goal.loop-i-init
loop-i-init c = two_begin (λ edge row. products_from c.args.scale edge row c.args.far.now) c.args.reached.now (map (λ r. r.items) c.args.transfers.now)

pub returns-in_err-reached : goal.returns-in_err-reached
returns-in_err-reached c =
    let none = two_none (λ edge row. products_from c.args.scale edge row c.args.far.now) c.args.reached.now c.loop-i.reached (map (λ r. r.items) c.args.transfers.now) c.loop-i.i (get_or c.loop-i.reached c.loop-i.i 0) c.index-transfers-i.result.items (omega arith) refl (read (λ r. r.items) c.args.transfers.now c.loop-i.i c.index-transfers-i.result (omega arith) c.index-transfers-i.is) (rw c.as_slice.ensures.value at c.in_err-reached.ensures) c.loop-i.invariant in
    rw c.from_residual.ensures (sym none)

pub loop-i-preserved : goal.loop-i-preserved
loop-i-preserved c = two_more (λ edge row. products_from c.args.scale edge row c.args.far.now) c.args.reached.now c.loop-i.reached (map (λ r. r.items) c.args.transfers.now) c.loop-i.i (get_or c.loop-i.reached c.loop-i.i 0) c.in_ok-reached.field-0 c.index-transfers-i.result.items (omega arith) refl (read (λ r. r.items) c.args.transfers.now c.loop-i.i c.index-transfers-i.result (omega arith) c.index-transfers-i.is) (rw c.as_slice.ensures.value at c.in_ok-reached.ensures) c.loop-i.invariant

pub returns : goal.returns
returns c = sym (two_all (λ edge row. products_from c.args.scale edge row c.args.far.now) c.args.reached.now c.loop-i.reached (map (λ r. r.items) c.args.transfers.now) c.loop-i.i (omega arith) (omega (arith, length-map c.args.transfers.now (λ r. r.items))) c.loop-i.invariant)
