use Rattle.std.proofs.Common.{◌+◌, ◌-◌, length, map, ap, sym, ◌∙◌, arith}
use Rattle.std.specs.Option.{option_map}
use Rattle.std.proofs.lemmas.Slice.{drop-put_mid}
use Rattle.complex_interval.specs.Rect.{rectangle_of}
use Rattle.plain_elimination.specs.Elimination.{later_line}
use Rattle.plain_elimination.specs.Rectangles.{rectangles}
use Rattle.plain_elimination.proofs.Layouts.{part_new, part_old}
use Rattle.plain_elimination.proofs.rows.eliminate_line_at.Goals as goal

pub returns-clause-line : goal.returns-clause-line
returns-clause-line g c =
    let rectangle = rectangle_of g.E.Enclosure.ends in
    let n = length c.args.first.now in
    let s = c.args.start in
    let new = part_new rectangle c.args.cells.now c.eliminate_line.new.row (s + 1) n (s + 1 + n - (s + 1)) (omega arith) (omega arith) (omega arith) in
    let old = part_old rectangle c.args.cells.now s n (s + 1 + n - (s + 1)) c.index-cells-start.result (omega arith) c.index-cells-start.is (omega arith) in
    ap (λ row. option_map (λ b. record { left = row; right = rectangle b }) c.eliminate_line.result) new
    ∙ c.eliminate_line.ensures
    ∙ sym (ap (λ row. later_line (rectangles g.E.Enclosure.SCALE) (rectangle c.args.pivot) (map rectangle c.args.first.now) (rectangle c.args.first_right) row (rectangle c.args.right)) old)

pub returns-clause-after : goal.returns-clause-after
returns-clause-after g c =
    let n = length c.args.first.now in
    let s = c.args.start in
    drop-put_mid (s + 1) (s + 1 + n - (s + 1)) c.args.cells.now c.eliminate_line.new.row (s + 1 + n) (omega arith) (omega arith) (omega arith)
