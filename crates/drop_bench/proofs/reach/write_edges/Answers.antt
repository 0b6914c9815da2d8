use Rattle.std.proofs.Common.{◌≡◌, get_or, map, sym, subst, arith}
use Rattle.std.proofs.lemmas.List.{length-map}
use Rattle.certified_inverse.proofs.Placed.{placed_begins, placed_more, placed_none}
use Rattle.drop_bench.proofs.Plain.{all_written}
use Rattle.plain_elimination.proofs.Sweeps.{read}
use Rattle.branchwise_test.specs.Reach.{edge_from}
use Rattle.drop_bench.specs.Drops.{drop_ends}
use Rattle.std.proofs.Common.{ℕ}
use Rattle.drop_bench.proofs.reach.write_edges.Goals as goal

pub loop-i-init : goal.loop-i-init
loop-i-init g c = placed_begins (λ (n : ℕ). n) (λ d. edge_from g.E.Enclosure.SCALE 0 d.taps c.args.nodes.now) (map (drop_ends g.E.Enclosure.ends) c.args.drops.now) c.args.edges.now

pub returns-in_err-edges : goal.returns-in_err-edges
returns-in_err-edges g c =
    let item = get_or c.args.drops.now c.loop-i.i c.index-drops-i.result in
    let is : item ≡ get_or c.args.drops.now c.loop-i.i item = subst (λ d. d ≡ get_or c.args.drops.now c.loop-i.i d) c.index-drops-i.is c.index-drops-i.is in
    let here = read (drop_ends g.E.Enclosure.ends) c.args.drops.now c.loop-i.i item (omega arith) is in
    let none = placed_none (λ (n : ℕ). n) (λ d. edge_from g.E.Enclosure.SCALE 0 d.taps c.args.nodes.now) (map (drop_ends g.E.Enclosure.ends) c.args.drops.now) c.loop-i.edges c.loop-i.i ((drop_ends g.E.Enclosure.ends) item) here (rw c.as_slice.ensures.value at c.in_err-edges.ensures) c.loop-i.invariant in
    rw c.from_residual.ensures (sym none)

pub loop-i-preserved : goal.loop-i-preserved
loop-i-preserved g c =
    let item = get_or c.args.drops.now c.loop-i.i c.index-drops-i.result in
    let is : item ≡ get_or c.args.drops.now c.loop-i.i item = subst (λ d. d ≡ get_or c.args.drops.now c.loop-i.i d) c.index-drops-i.is c.index-drops-i.is in
    let here = read (drop_ends g.E.Enclosure.ends) c.args.drops.now c.loop-i.i item (omega arith) is in
    placed_more (λ (n : ℕ). n) (λ d. edge_from g.E.Enclosure.SCALE 0 d.taps c.args.nodes.now) (map (drop_ends g.E.Enclosure.ends) c.args.drops.now) c.loop-i.edges c.loop-i.i ((drop_ends g.E.Enclosure.ends) item) c.in_ok-edges.field-0 (omega arith) here (rw c.as_slice.ensures.value at c.in_ok-edges.ensures) c.loop-i.invariant

pub returns : goal.returns
returns g c = sym (all_written (λ d. edge_from g.E.Enclosure.SCALE 0 d.taps c.args.nodes.now) (map (drop_ends g.E.Enclosure.ends) c.args.drops.now) c.loop-i.edges c.loop-i.i (omega arith) (omega (arith, length-map c.args.drops.now (drop_ends g.E.Enclosure.ends))) c.loop-i.invariant)
