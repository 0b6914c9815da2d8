use Rattle.std.proofs.Common.{◌≡◌, ◌+◌, ◌^◌, ◌<◌, ◌≤◌, drop}
use Rattle.std.specs.Prelude.{sum_by}
use Rattle.distortion_bounds.proofs.squares.total.Given as goal

abbrev pub invariant-loop-squares : goal.invariant-loop-squares
invariant-loop-squares l = record {
  lo : l.lo + sum_by (λ q. q.lo) (drop l.squares-index l.list) ≡ sum_by (λ q. q.lo) l.list;
  hi : l.hi + sum_by (λ q. q.hi) (drop l.squares-index l.list) ≡ sum_by (λ q. q.hi) l.list;
  small : l.hi < 2 ^ 125;
  ordered : l.lo ≤ l.hi;
}
