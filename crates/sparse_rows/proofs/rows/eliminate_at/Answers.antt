use Rattle.std.proofs.Common.{◌≡◌, ◌<◌, take, drop, get_or, subst, ◌+◌, ◌-◌, length, ap, sym, ◌∙◌, arith, map}
use Rattle.std.specs.Option.{option_map}
use Rattle.std.proofs.lemmas.Slice.{drop-put_mid, between-put_mid, take-put_mid_below}
use Rattle.std.proofs.lemmas.List.{get_or-map}
use borrow.Rule.Slice.PartMut.{put_mid}
use Rattle.plain_elimination.specs.Matrix.{nought_rectangle}
use Rattle.sparse_rows.proofs.Outside.{zeros_stay}
use Rattle.complex_interval.specs.Rect.{rectangle_of}
use Rattle.plain_elimination.specs.Elimination.{later_row}
use Rattle.plain_elimination.specs.Rectangles.{rectangles}
use Rattle.plain_elimination.proofs.Layouts.{part_new, part_old}
use Rattle.sparse_rows.proofs.rows.eliminate_at.Goals as goal

pub returns-clause-row : goal.returns-clause-row
returns-clause-row g c =
    let rectangle = rectangle_of g.E.Enclosure.ends in
    let n = length c.args.first.now in
    let s = c.args.at in
    let new = part_new rectangle c.args.cells.now c.eliminate_listed.new.row (s + 1) n (s + 1 + n - (s + 1)) (omega arith) (omega arith) (omega arith) in
    let old = part_old rectangle c.args.cells.now s n (s + 1 + n - (s + 1)) c.cell-entry.result (omega arith) c.cell-entry.ensures (omega arith) in
    ap (λ row. option_map (λ _. row) c.eliminate_listed.result) new
    ∙ c.eliminate_listed.ensures.stated
    ∙ sym (ap (later_row (rectangles g.E.Enclosure.SCALE) (rectangle c.args.pivot) (map rectangle c.args.first.now)) old)

pub returns-clause-after : goal.returns-clause-after
returns-clause-after g c =
    let n = length c.args.first.now in
    let s = c.args.at in
    drop-put_mid (s + 1) (s + 1 + n - (s + 1)) c.args.cells.now c.eliminate_listed.new.row (s + 1 + n) (omega arith) (omega arith) (omega arith)

pub returns-clause-zeros : goal.returns-clause-zeros
returns-clause-zeros g c =
    let rectangle = rectangle_of g.E.Enclosure.ends in
    let n = length c.args.first.now in
    let s = c.args.at in
    let cells = c.args.cells.now in
    let ys = c.eliminate_listed.new.row in
    let new = put_mid (s + 1) (s + 1 + n - (s + 1)) cells ys in
    let old = take (s + 1 + n - (s + 1)) (drop (s + 1) cells) in
    let size : s + 1 + n - (s + 1) ≡ n = omega arith in
    let en : take n (drop (s + 1) new) ≡ ys = subst (λ m. take m (drop (s + 1) new) ≡ ys) size (between-put_mid (s + 1) (s + 1 + n - (s + 1)) cells ys (s + 1 + n) (omega arith) (omega arith)) in
    let eo : take n (drop (s + 1) cells) ≡ old = ap (λ k. take k (drop (s + 1) cells)) (sym size) in
    let here : s < length cells = omega arith in
    let entry : rectangle c.cell-entry.result ≡ get_or (map rectangle cells) s nought_rectangle = ap rectangle c.cell-entry.ensures ∙ sym (get_or-map rectangle cells s c.cell-entry.result nought_rectangle here) in
    let before = take-put_mid_below (s + 1) (s + 1 + n - (s + 1)) cells ys (s + 1) (omega arith) (omega arith) in
    let after = drop-put_mid (s + 1) (s + 1 + n - (s + 1)) cells ys (s + 1 + n) (omega arith) (omega arith) (omega arith) in
    zeros_stay rectangle cells new ys old c.args.first.now c.cell-entry.result s n before after en eo c.eliminate_listed.ensures.kept entry c.eliminate_listed.ensures.stays
