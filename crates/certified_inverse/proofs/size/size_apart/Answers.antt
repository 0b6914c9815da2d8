use Rattle.std.proofs.Common.{map, sym, arith}
use Rattle.std.proofs.lemmas.List.{length-map}
use Rattle.complex_interval.specs.Rect.{rectangle_of}
use Rattle.plain_elimination.proofs.Sweeps.{read}
use Rattle.certified_inverse.proofs.Products.{sized_begins, sized_more, sized_none, sized_all}
use Rattle.certified_inverse.proofs.size.size_apart.Goals as goal

pub loop-i-init : goal.loop-i-init
loop-i-init g c =
    let rectangle = rectangle_of g.E.Enclosure.ends in
    record { value = sized_begins (map rectangle c.args.row.now) (map rectangle c.args.other.now); bound = omega arith }

pub returns-in_err-apart : goal.returns-in_err-apart
returns-in_err-apart g c =
    let rectangle = rectangle_of g.E.Enclosure.ends in
    let i = c.loop-i.i in
    let x = read rectangle c.args.row.now i c.index-row-i.result (omega arith) c.index-row-i.is in
    let y = read rectangle c.args.other.now i c.index-other-i.result (omega arith) c.index-other-i.is in
    let none = sized_none (map rectangle c.args.row.now) (map rectangle c.args.other.now) c.loop-i.total i (rectangle c.index-row-i.result) (rectangle c.index-other-i.result) x y c.in_err-apart.ensures.value c.loop-i.invariant.value in
    rw c.from_residual.ensures (sym none)

pub loop-i-preserved : goal.loop-i-preserved
loop-i-preserved g c =
    let rectangle = rectangle_of g.E.Enclosure.ends in
    let i = c.loop-i.i in
    let x = read rectangle c.args.row.now i c.index-row-i.result (omega arith) c.index-row-i.is in
    let y = read rectangle c.args.other.now i c.index-other-i.result (omega arith) c.index-other-i.is in
    let fits = c.size_of.type_inv in
    let before = c.loop-i.invariant.bound in
    record {
      value = rw c.size_of.ensures (sized_more (map rectangle c.args.row.now) (map rectangle c.args.other.now) c.loop-i.total i (rectangle c.index-row-i.result) (rectangle c.index-other-i.result) (rectangle c.in_ok-apart.apart) x y c.in_ok-apart.ensures.value c.loop-i.invariant.value);
      bound = omega (arith, fits, before);
    }

pub returns : goal.returns
returns g c =
    let rectangle = rectangle_of g.E.Enclosure.ends in
    let row = map rectangle c.args.row.now in
    let other = map rectangle c.args.other.now in
    sym (sized_all row other c.loop-i.total c.loop-i.i (omega (arith, length-map c.args.row.now rectangle)) (omega (arith, length-map c.args.other.now rectangle)) c.loop-i.invariant.value)
