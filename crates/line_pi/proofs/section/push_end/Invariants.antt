use Rattle.std.proofs.Common.{◌≡◌, ◌++◌, map, take}
use Rattle.net_branch.specs.Exact.{exact_law, exact_branch}
use Rattle.element_parts.specs.Expansion.{to_ground}
use Rattle.line_pi.proofs.section.push_end.Given as goal

abbrev pub invariant-loop-law : goal.invariant-loop-law
invariant-loop-law l = map exact_branch l.branches ≡ map exact_branch l.initial.branches ++ map (λ law. to_ground l.node law l.owner) (map exact_law (take l.law-index l.end))
