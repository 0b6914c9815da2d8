use Rattle.std.proofs.Common.{◌≡◌, length}
use Rattle.distortion_cases.proofs.coupled_lines.fill.Given as goal

abbrev pub invariant-loop-row : goal.invariant-loop-row
invariant-loop-row l = length l.column ≡ l.size
