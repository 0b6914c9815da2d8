use Rattle.std.proofs.Common.{sym, subst, ◌≤◌}
use Rattle.std.proofs.lemmas.List.Elements.{All-from_recursion}
use Rattle.std.specs.List.{All}
use Rattle.distortion_bounds.specs.declared.squares.Squares.{Squares}
use Rattle.limits_report.specs.Cells.{live_squares}
use Rattle.limits_report.specs.Gathering.{Gathers}
use Rattle.limits_report.proofs.Fits.{gathered, ordered_squares}
use Rattle.limits_report.proofs.total.all_orders.Goals as goal

pub total-requires : goal.total-requires
total-requires c =
    let list = c.push_squares.new.list in
    let gathers = subst (λ old. Gathers (live_squares c.args.cells.now) old list c.in_ok-whole.whole) c.new-list.ensures c.in_ok-whole.ensures in
    let every = ordered_squares c.args.cells.now list c.requires (gathered (live_squares c.args.cells.now) list c.in_ok-whole.whole gathers c.if-whole.true) in
    subst (λ xs. All (λ (q : Squares). q.lo ≤ q.hi) xs) (sym c.as_slice.ensures) (All-from_recursion _ list every)
