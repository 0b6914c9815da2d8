use Rattle.std.proofs.Common.{◌≡◌, ◌+◌, ◌-◌, ◌++◌, map}
use Rattle.net_branch.specs.Exact.{exact_law, exact_branch}
use Rattle.line_pi.specs.Lines.{cascade}
use Rattle.line_pi.proofs.section.cascade.Given as goal

-- the branches so far, and the sections that remain, are those of the whole line
abbrev pub invariant-loop-i : goal.invariant-loop-i
invariant-loop-i l =
    map exact_branch l.branches ++ cascade (exact_law l.series) (map exact_law l.end) l.near (l.next + l.i) (l.line.sections - 1 - l.i) l.line.to l.owner
    ≡ cascade (exact_law l.series) (map exact_law l.end) l.line.from l.next (l.line.sections - 1) l.line.to l.owner
