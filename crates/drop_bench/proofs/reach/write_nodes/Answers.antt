use Rattle.std.proofs.Common.{ℕ, map, sym, arith}
use Rattle.std.proofs.lemmas.List.{length-map}
use Rattle.certified_inverse.proofs.Placed.{placed_begins, placed_more, placed_none}
use Rattle.plain_elimination.proofs.Sweeps.{read}
use Rattle.branchwise_test.specs.Reach.{products_from}
use Rattle.drop_bench.proofs.Plain.{all_written}
use Rattle.drop_bench.proofs.reach.write_nodes.Goals as goal

pub loop-i-init : goal.loop-i-init
loop-i-init c = placed_begins (λ (n : ℕ). n) (λ row. products_from c.args.scale 0 row c.args.numbers.now) (map (λ r. r.items) c.args.left.now) c.args.nodes.now

pub returns-in_err-nodes : goal.returns-in_err-nodes
returns-in_err-nodes c =
    let item = c.index-left-i.result in
    let is = c.index-left-i.is in
    let here = read (λ r. r.items) c.args.left.now c.loop-i.i item (omega arith) is in
    let none = placed_none (λ (n : ℕ). n) (λ row. products_from c.args.scale 0 row c.args.numbers.now) (map (λ r. r.items) c.args.left.now) c.loop-i.nodes c.loop-i.i item.items here (rw c.as_slice.ensures.value at c.in_err-nodes.ensures) c.loop-i.invariant in
    rw c.from_residual.ensures (sym none)

pub loop-i-preserved : goal.loop-i-preserved
loop-i-preserved c =
    let item = c.index-left-i.result in
    let is = c.index-left-i.is in
    let here = read (λ r. r.items) c.args.left.now c.loop-i.i item (omega arith) is in
    placed_more (λ (n : ℕ). n) (λ row. products_from c.args.scale 0 row c.args.numbers.now) (map (λ r. r.items) c.args.left.now) c.loop-i.nodes c.loop-i.i item.items c.in_ok-nodes.field-0 (omega arith) here (rw c.as_slice.ensures.value at c.in_ok-nodes.ensures) c.loop-i.invariant

pub returns : goal.returns
returns c = sym (all_written (λ row. products_from c.args.scale 0 row c.args.numbers.now) (map (λ r. r.items) c.args.left.now) c.loop-i.nodes c.loop-i.i (omega arith) (omega (arith, length-map c.args.left.now (λ r. r.items))) c.loop-i.invariant)
