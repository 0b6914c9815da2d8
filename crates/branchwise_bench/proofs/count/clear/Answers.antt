use Rattle.std.proofs.Common.{◌≡◌, ◌∙◌, get_or, subst, arith}
use Rattle.drop_bench.specs.Drops.{drop_ends}
use Rattle.branchwise_bench.proofs.Counting.{bare_more}
use Rattle.branchwise_bench.proofs.count.clear.Goals as goal

pub loop-i-preserved : goal.loop-i-preserved
loop-i-preserved g c =
    let all = c.loop-i.auto.drops in
    let r = get_or c.loop-i.drops c.loop-i.i c.index-drops-i.result in
    let is : r ≡ get_or c.loop-i.drops c.loop-i.i r = subst (λ d. d ≡ get_or c.loop-i.drops c.loop-i.i d) c.index-drops-i.is c.index-drops-i.is in
    bare_more (drop_ends g.E.Enclosure.ends) c.loop-i.drops c.loop-i.i r c.clear.new.self (omega (arith, all, c.loop-i-test.true)) is c.clear.ensures ∙ c.loop-i.invariant
