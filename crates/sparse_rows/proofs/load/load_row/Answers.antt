use Rattle.std.proofs.Common.{ℕ, ◌≤◌, ◌<◌, ◌+◌, ◌*◌, map, get_or, arith}
use Rattle.complex_interval.specs.Rect.{rectangle_of}
use Rattle.sparse_rows.specs.Listed.{Out, SameAt, CloserTo}
use Rattle.sparse_rows.proofs.Loads.{row_more, column_more}
use Rattle.sparse_rows.proofs.load.load_row.Goals as goal

pub loop-j-init : goal.loop-j-init
loop-j-init g c =
    let k = c.args.k in
    let diagonal : k < c.args.size → 1 ≤ get_or c.args.gaps.now (k * c.args.size + k) 0 = λ l. c.requires.fill.diagonal k l in
    let same : k ≤ k = omega arith in
    let most : k ≤ c.args.size = omega arith in
    (same, most, diagonal, λ q s. s, λ i a b. absurd (omega arith), λ i a b. absurd (omega arith))

pub loop-j-preserved : goal.loop-j-preserved
loop-j-preserved g c =
    let rectangle = rectangle_of g.E.Enclosure.ends in
    let gaps = c.args.gaps.now in
    let source = map rectangle c.args.source.now in
    let mid = map rectangle c.loop-j.cells in
    let new = map rectangle c.load_cell-in-loop-j.new.cells in
    let k = c.args.k in
    let j = c.loop-j.j in
    let size = c.args.size in
    let fill = c.requires.fill in
    let l = c.requires.row_in in
    let m = c.loop-j-test.true in
    let lj = c.loop-j.invariant.0 in
    let live = c.loop-j.invariant.2 m in
    let within : j + get_or gaps (k * size + j) 0 ≤ size = fill.within k j lj m in
    let above : k ≤ j + get_or gaps (k * size + j) 0 = omega arith in
    let first = c.load_cell.ensures in
    let second = c.load_cell-in-loop-j.ensures in
    let closer : CloserTo source mid new = λ q s. second.closer q (first.closer q s) in
    let outside : (q : ℕ) → Out gaps q → SameAt source mid q = λ q o. c.loop-j.invariant.3 q (c.requires.outside q o) in (
      above,
      within,
      λ n. fill.next k j lj m live n,
      λ q s. closer q (c.loop-j.invariant.3 q s),
      row_more gaps source mid mid new size k j fill l lj m (λ q s. s) closer outside c.loop-j.invariant.4 (second.closer (k * size + j) first.here),
      column_more gaps source mid mid new size k j fill l lj m (λ q s. s) closer outside c.loop-j.invariant.5 second.here,
    )
