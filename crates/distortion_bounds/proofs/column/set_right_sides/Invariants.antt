use Rattle.std.proofs.Common.{◌≡◌, suc, length, map, drop}
use Rattle.node_injection.specs.Injected.{exact_injection}
use Rattle.distortion_bounds.specs.Solver.{with_injections, right_sides}
use Rattle.distortion_bounds.proofs.column.set_right_sides.Given as goal

abbrev pub invariant-loop-i : goal.invariant-loop-i
invariant-loop-i g l = record {
  so_far : with_injections g.E.Enclosure.SCALE l.ordering (suc l.i) (map exact_injection (drop l.i l.injections)) l.column ≡ right_sides g.E.Enclosure.SCALE l.ordering (map exact_injection l.injections);
  size : length l.column ≡ length l.ordering;
}
