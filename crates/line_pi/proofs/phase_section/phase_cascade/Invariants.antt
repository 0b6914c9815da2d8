use Rattle.std.proofs.Common.{◌≡◌, ◌+◌, ◌-◌, ◌*◌, ◌<◌, ◌^◌, ◌++◌, map}
use Rattle.std.specs.Prelude.{option_map}
use Rattle.net_branch.specs.Exact.{exact_law, exact_branch}
use Rattle.element_parts.specs.Couplings.{exact_coupling}
use Rattle.element_parts.specs.Phases.{first_node}
use Rattle.line_pi.specs.PhaseLines.{phase_cascade}
use Rattle.line_pi.proofs.phase_section.phase_cascade.Given as goal

-- the branches so far, and the sections that remain, are those of the whole line
abbrev pub invariant-loop-i : goal.invariant-loop-i
invariant-loop-i l = record {
  near : l.near < 2 ^ 31;
  sections : map exact_branch l.branches ++ phase_cascade (exact_coupling l.laws.values) (option_map exact_law l.laws.shunt) (option_map exact_law l.laws.pair) l.near (l.next + 3 * l.i) (l.inner - l.i) (first_node l.line.to) (l.group + l.i) l.owner
      ≡ phase_cascade (exact_coupling l.laws.values) (option_map exact_law l.laws.shunt) (option_map exact_law l.laws.pair) (first_node l.line.from) l.next (l.line.sections - 1) (first_node l.line.to) l.group l.owner;
}
