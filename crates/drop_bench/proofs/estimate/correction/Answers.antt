use Rattle.std.proofs.Common.{◌∙◌, length, map, sym, arith}
use Rattle.complex_interval.specs.Rect.{rectangle_of}
use Rattle.plain_elimination.proofs.Sweeps.{read}
use Rattle.drop_bench.specs.Columns.{column_of, columns}
use Rattle.drop_bench.specs.Drops.{drop_ends}
use Rattle.drop_bench.proofs.Columns.{column_next}
use Rattle.drop_bench.proofs.Founds.{correction_more, correction_none}
use Rattle.drop_bench.proofs.estimate.correction.Goals as goal

pub returns-in_err-sum : goal.returns-in_err-sum
returns-in_err-sum g c =
    let s = g.E.Enclosure.SCALE in
    let rectangle = rectangle_of g.E.Enclosure.ends in
    let n = length c.args.drops.now in
    let i = c.loop-i.i in
    let rows = map (λ r. map rectangle r.items) c.args.voltages.now in
    let ds = map (drop_ends g.E.Enclosure.ends) c.args.drops.now in
    let xs = map rectangle c.args.xs.now in
    let ed = read (drop_ends g.E.Enclosure.ends) c.args.drops.now i c.index-drops-i.result (omega arith) c.index-drops-i.is in
    let ev = column_next n i rows (omega arith) in
    let ex = read rectangle c.args.xs.now i c.index-xs-i.result (omega arith) c.index-xs-i.is in
    let none = correction_none s c.args.driven i (rectangle c.loop-i.sum) (rectangle c.index-xs-i.result) (drop_ends g.E.Enclosure.ends c.index-drops-i.result) ds (column_of i rows) (columns n rows) xs ed ev ex c.in_err-sum.ensures in
    rw c.from_residual.ensures (sym none ∙ c.loop-i.invariant)

pub loop-i-preserved : goal.loop-i-preserved
loop-i-preserved g c =
    let s = g.E.Enclosure.SCALE in
    let rectangle = rectangle_of g.E.Enclosure.ends in
    let n = length c.args.drops.now in
    let i = c.loop-i.i in
    let rows = map (λ r. map rectangle r.items) c.args.voltages.now in
    let ds = map (drop_ends g.E.Enclosure.ends) c.args.drops.now in
    let xs = map rectangle c.args.xs.now in
    let ed = read (drop_ends g.E.Enclosure.ends) c.args.drops.now i c.index-drops-i.result (omega arith) c.index-drops-i.is in
    let ev = column_next n i rows (omega arith) in
    let ex = read rectangle c.args.xs.now i c.index-xs-i.result (omega arith) c.index-xs-i.is in
    sym (correction_more s c.args.driven i (rectangle c.loop-i.sum) (rectangle c.index-xs-i.result) (drop_ends g.E.Enclosure.ends c.index-drops-i.result) ds (column_of i rows) (columns n rows) xs ed ev ex (rectangle c.in_ok-sum.sum) c.in_ok-sum.ensures) ∙ c.loop-i.invariant
