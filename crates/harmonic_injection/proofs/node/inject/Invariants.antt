use Rattle.std.proofs.Common.{◌≡◌, ◌++◌, drop, map}
use Rattle.node_injection.specs.Injected.{exact_injection}
use Rattle.harmonic_injection.specs.Injections.{injections_of}
use Rattle.harmonic_injection.proofs.node.inject.Given as goal

abbrev pub invariant-loop-row : goal.invariant-loop-row
invariant-loop-row l = map exact_injection l.injections ++ injections_of l.study (drop l.row-index l.row-items) l.order ≡ injections_of l.study l.row-items l.order
