use Rattle.std.proofs.Common.{map, sym, arith}
use Rattle.std.proofs.lemmas.List.{length-map}
use Rattle.complex_interval.specs.Rect.{rectangle_of}
use Rattle.certified_inverse.proofs.Placed.{placed_begins, placed_more, placed_none}
use Rattle.drop_bench.proofs.Plain.{all_written}
use Rattle.plain_elimination.proofs.Sweeps.{read}
use Rattle.branchwise_test.specs.Sizes.{kept_size}
use Rattle.std.proofs.Common.{ℕ}
use Rattle.drop_bench.proofs.voltages.write_sizes.Goals as goal

pub loop-i-init : goal.loop-i-init
loop-i-init g c = placed_begins (λ (n : ℕ). n) (kept_size) (map (rectangle_of g.E.Enclosure.ends) c.args.values.now) c.args.sizes.now

pub returns-in_err-sizes : goal.returns-in_err-sizes
returns-in_err-sizes g c =
    let item = c.index-values-i.result in
    let here = read (rectangle_of g.E.Enclosure.ends) c.args.values.now c.loop-i.i item (omega arith) c.index-values-i.is in
    let none = placed_none (λ (n : ℕ). n) (kept_size) (map (rectangle_of g.E.Enclosure.ends) c.args.values.now) c.loop-i.sizes c.loop-i.i ((rectangle_of g.E.Enclosure.ends) item) here c.in_err-sizes.ensures c.loop-i.invariant in
    rw c.from_residual.ensures (sym none)

pub loop-i-preserved : goal.loop-i-preserved
loop-i-preserved g c =
    let item = c.index-values-i.result in
    let here = read (rectangle_of g.E.Enclosure.ends) c.args.values.now c.loop-i.i item (omega arith) c.index-values-i.is in
    placed_more (λ (n : ℕ). n) (kept_size) (map (rectangle_of g.E.Enclosure.ends) c.args.values.now) c.loop-i.sizes c.loop-i.i ((rectangle_of g.E.Enclosure.ends) item) c.in_ok-sizes.field-0 (omega arith) here c.in_ok-sizes.ensures c.loop-i.invariant

pub returns : goal.returns
returns g c = sym (all_written (kept_size) (map (rectangle_of g.E.Enclosure.ends) c.args.values.now) c.loop-i.sizes c.loop-i.i (omega arith) (omega (arith, length-map c.args.values.now (rectangle_of g.E.Enclosure.ends))) c.loop-i.invariant)
